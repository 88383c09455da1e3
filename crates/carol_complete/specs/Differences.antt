-- Programs of which nothing can stay open, since all that is asked of them is asked of differences.
use Rattle.std.specs.Prelude.{◌≡◌, ◌≤◌, List, Some, true, false, slice_get}
use Rattle.std.specs.List.{AllByRecursion}
use Rattle.carol_accord.specs.Formed.{equal_claim, step_claim}
use Rattle.carol_complete.specs.Inputs.{NothingOpen}
use Rattle.carol_decide.specs.declared.answer.TheConstants.{MOST_LEAVES}
use Rattle.carol_decide.specs.Sizes.{OfDifferences}
use Rattle.carol_formula.specs.Claim.{Claim, cases_of, without_not}
use Rattle.carol_obligation.specs.Formed.{obligation_at}
use Rattle.carol_obligation.specs.Spots.{Spot, spots_of}
use Rattle.carol_program.specs.Rules.{Rules}
use Rattle.carol_store.specs.declared.direction.Direction.{Direction}
use Rattle.carol_store.specs.declared.shape.CellKind.{CellKind}

-- each comparison is of two variables, or of one with a number, and there are few enough cases
pub record IsPlain (claim : Claim) : Type 0 where
  pub differences : OfDifferences claim
  pub few : cases_of claim ≤ MOST_LEAVES

-- so is what is asked of a guard: whether it is false of two equal stores, and whether a step of a
-- cell makes it false
pub record AsksPlainly (kinds : List CellKind) (guard : Claim) : Type 0 where
  pub equal : IsPlain (without_not true (equal_claim kinds guard))
  pub steps : (direction : Direction) (kind : CellKind) →
      slice_get kinds direction.cell ≡ Some kind →
      IsPlain (without_not true (step_claim kinds guard kind direction))

-- and what is owed at a place of an operation
abbrev pub OwesPlainly : Rules → Spot → Type 0
OwesPlainly p spot = IsPlain (without_not false (obligation_at p spot.op spot.site))

pub record AsksDifferences (p : Rules) : Type 0 where
  pub guards : AllByRecursion (AsksPlainly p.shape) p.guards
  pub places : AllByRecursion (OwesPlainly p) (spots_of p)

abbrev pub DifferencesAreDecided : Type 0
DifferencesAreDecided = (p : Rules) → AsksDifferences p → NothingOpen p

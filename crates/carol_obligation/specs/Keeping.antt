-- Obligations that are kept.
use Rattle.std.specs.Prelude.{◌≡◌, List}
use Rattle.std.specs.List.{AllByRecursion}
use Rattle.carol_formula.specs.Claim.{Claim}
use Rattle.carol_formula.specs.Tree.{claim_of}
use Rattle.carol_program.specs.declared.places.Place.{Place}
use Rattle.carol_obligation.specs.Budget.{IsDecidable}
use Rattle.carol_obligation.specs.Listed.{owed_in}
use Rattle.carol_obligation.specs.declared.list.Obligation.{Obligation}

-- each formula and its denial can be decided
abbrev pub AreDecidable : List Obligation → Type 0
AreDecidable list = AllByRecursion (λ o. IsDecidable (claim_of o.formula)) list

-- they are those that were taken, and can be decided
pub record AreKept (list : List Obligation) (taken : List (Place × Claim)) : Type 0 where
  pub same : owed_in list ≡ taken
  pub decidable : AreDecidable list

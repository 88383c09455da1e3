-- What an obligation of the code says.
use Rattle.std.specs.Prelude.{◌≡◌, ◌↔◌, ◌≤◌, ℕ, ℤ, false, List, map}
use Rattle.std.specs.List.{AllByRecursion}
use Rattle.carol_formula.specs.Bounds.{narrow_limit}
use Rattle.carol_formula.specs.Claim.{Claim, ClaimWithin, truth, without_not}
use Rattle.carol_formula.specs.Size.{nodes_of}
use Rattle.carol_formula.specs.Tree.{claim_of}
use Rattle.carol_program.specs.declared.places.Place.{Place}
use Rattle.carol_program.specs.Rules.{Rules}
use Rattle.carol_obligation.specs.Breaches.{IsBreach}
use Rattle.carol_obligation.specs.Spots.{Spot, place_at}
use Rattle.carol_obligation.specs.declared.list.Obligation.{Obligation}

-- the place, and what its formula says
abbrev pub owed_of : Obligation → Place × Claim
owed_of o = (o.place, claim_of o.formula)

abbrev pub owed_in : List Obligation → List (Place × Claim)
owed_in list = map owed_of list

-- it is owed at the place, and its formula is false of exactly the numbers that are a breach there
pub record IsOwedAt (p : Rules) (o : Obligation) (s : Spot) : Type 0 where
  pub place : o.place ≡ place_at s
  pub exact : (f : ℕ → ℤ) → (truth (claim_of o.formula) f ≡ false) ↔ IsBreach p s.op s.site f

-- no number of the formula is wide, and it has few enough nodes to be decided
pub record IsNarrow (c : Claim) : Type 0 where
  pub narrow : ClaimWithin narrow_limit c
  pub few : nodes_of c ≤ 65536

-- so is each formula, and its denial without `Not`
abbrev pub AreNarrow : List Obligation → Type 0
AreNarrow list = AllByRecursion (λ o. IsNarrow (claim_of o.formula) × IsNarrow (without_not false (claim_of o.formula))) list

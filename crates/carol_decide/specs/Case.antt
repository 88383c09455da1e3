-- The cases of a list of formulas.
use Rattle.std.specs.Prelude.{ℕ, zero, suc, ◌≡◌, ◌⊎◌, List, [], ◌∷◌, ◌++◌, Some, slice_set}
use Rattle.carol_formula.specs.Claim.{Claim}
use Rattle.carol_cert.specs.Refutes.{parts_at, sides_at}
use Rattle.carol_elimination.specs.Due.{AreRows}

-- an `And` of the list is taken apart, its right part coming last, or an `Or` or a `Ne` is one of its sides
pub record TakesParts (claims next : List Claim) : Type 0 where
  pub at : ℕ
  pub parts : Claim × Claim
  pub there : parts_at claims at ≡ Some parts
  pub is : next ≡ slice_set claims at parts.0 ++ parts.1 ∷ []

pub record TakesSide (claims next : List Claim) : Type 0 where
  pub at : ℕ
  pub sides : Claim × Claim
  pub there : sides_at claims at ≡ Some sides
  pub is : (next ≡ slice_set claims at sides.0) ⊎ (next ≡ slice_set claims at sides.1)

abbrev pub TakesApart : List Claim → List Claim → Type 0
TakesApart claims next = TakesParts claims next ⊎ TakesSide claims next

-- in so many steps
abbrev pub Becomes : ℕ → List Claim → List Claim → Type 0
Becomes zero claims last = claims ≡ last
Becomes (suc n) claims last = (next : List Claim) × TakesApart claims next × Becomes n next last

-- nothing is left to be taken apart
pub record IsCaseOf (claims last : List Claim) : Type 0 where
  pub steps : ℕ
  pub becomes : Becomes steps claims last
  pub rows : AreRows last

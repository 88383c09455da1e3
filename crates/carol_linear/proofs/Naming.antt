-- What a step becomes that takes a named row.
use Rattle.std.proofs.Common.{◌≡◌, ℕ, zero, suc, List, [], ◌∷◌, map, refl, sym}
use Rattle.std.specs.Prelude.{Some, slice_get}
use Rattle.carol_formula.specs.Linear.{Linear}
use Rattle.carol_formula.specs.Claim.{Claim, Le}
use Rattle.carol_cert.specs.PlainRow.{PlainRow, row_of}
use Rattle.carol_cert.specs.Steps.{IsRow, IsEquation, term_of, made, IsAllowed}
use Rattle.carol_cert.specs.declared.step.RowStep.{RowStep}
use Rattle.carol_cert.specs.declared.step.RowStep.TheVariants.{Given, Reversed, Combine, Tighten}
use Rattle.carol_linear.specs.Names.{IsNamed, AreNamed}

-- an `Eq` is none of the rows
pub no_equation : (rows : List Linear) (at : ℕ) → IsEquation (slice_get (map Le rows) at) → ⊥
no_equation [] at h = h
no_equation (r ∷ rows) zero h = h
no_equation (r ∷ rows) (suc at) h = no_equation rows at h

-- whatever rows there are, the name makes the same row
pub record IsNameOf (claims : List Claim) (name : RowStep) (row : PlainRow) : Type 0 where
  pub allowed : (before : List PlainRow) → IsAllowed claims before name
  pub is : (before : List PlainRow) → made claims before name ≡ row

name_of : (claims : List Claim) (name : RowStep) (row : Linear) → IsNamed claims name row → IsNameOf claims name (row_of row)
name_of claims (Given at) row h = record { allowed = λ before. h.0; is = λ before. sym h.1 }
name_of claims (Reversed at) row h = record { allowed = λ before. h.0; is = λ before. sym h.1 }
name_of claims (Combine a m b n) row h = absurd h
name_of claims (Tighten a d) row h = absurd h

pub name_at : (claims : List Claim) (names : List RowStep) (rows : List Linear) (at : ℕ) → AreNamed claims names rows → IsRow (slice_get (map Le rows) at) → (name : RowStep) × (slice_get names at ≡ Some name) × IsNameOf claims name (row_of (term_of (slice_get (map Le rows) at)))
name_at claims names [] at h known = absurd known
name_at claims [] (r ∷ rows) at h known = absurd h
name_at claims (name ∷ names) (r ∷ rows) zero h known = (name, refl, name_of claims name r h.0)
name_at claims (name ∷ names) (r ∷ rows) (suc at) h known = name_at claims names rows at h.1 known

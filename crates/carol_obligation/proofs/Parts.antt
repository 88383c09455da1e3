-- The cells of an issue's parts.
use Rattle.std.proofs.Common.{◌≡◌, ℕ, zero, suc, ◌<◌, List, [], ◌∷◌, length, arith, refl, sym}
use Rattle.std.specs.Prelude.{◌==◌, Some}
use Rattle.std.specs.List.{AllByRecursion}
use Rattle.std.proofs.lemmas.Bool.{cond_both, cond-true, eq-eqb, eqb-true}
use Rattle.carol_store.specs.declared.shape.CellKind.{CellKind}
use Rattle.carol_formula.specs.Linear.{Linear}
use Rattle.carol_program.specs.declared.steps.Part.{Part}
use Rattle.carol_program.specs.WellFormed.{IsDoneAt, HasNone, AreApart}
use Rattle.carol_reading.specs.Readings.{amount_for}

pub done-within : (kinds : List CellKind) (cell : ℕ) (t : Linear) → IsDoneAt kinds cell t → cell < length kinds
done-within [] cell t h = absurd h
done-within (kind ∷ kinds) zero t h = omega arith
done-within (kind ∷ kinds) (suc cell) t h = omega (arith, done-within kinds cell t h)

-- the part is the one of its cell
abbrev pub IsFound : List Part → Part → Type 0
IsFound parts part = amount_for part.cell parts ≡ Some part.amount

others-found : (p : Part) (parts ps : List Part) → HasNone p.cell ps → AllByRecursion (IsFound parts) ps → AllByRecursion (IsFound (p ∷ parts)) ps
others-found p parts [] none h = tt
others-found p parts (q ∷ ps) none h = (
  cond_both (p.cell == q.cell) (Some p.amount) (amount_for q.cell parts) (λ o. o ≡ Some q.amount) (λ e. absurd (none.0 (sym (eqb-true p.cell q.cell e)))) (λ _. h.0),
  others-found p parts ps none.1 h.1,
)

pub each-found : (parts : List Part) → AreApart parts → AllByRecursion (IsFound parts) parts
each-found [] apart = tt
each-found (p ∷ ps) apart = (cond-true (p.cell == p.cell) (Some p.amount) (amount_for p.cell ps) (eq-eqb p.cell p.cell refl), others-found p ps ps apart.0 (each-found ps apart.1))

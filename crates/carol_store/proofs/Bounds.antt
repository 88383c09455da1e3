-- An effect adds little.
use Rattle.std.proofs.Common.{ℕ, ◌+◌, ◌^◌, ◌<◌, ◌≤◌, zero, suc, List, [], ◌∷◌, ℤ, add-one, arith}
use Rattle.std.specs.Prelude.{unsigned_abs}
use Rattle.std.specs.Int.{w64}
use Rattle.std.proofs.lemmas.Int.{fits_signed_from_abs}
use Rattle.std.proofs.lemmas.List.Elements.{All-cons, All-head, All-tail, All-nil}
use Rattle.carol_store.specs.declared.shape.CellKind.{CellKind}
use Rattle.carol_store.specs.declared.effect.Atom.{Atom}
use Rattle.carol_store.specs.declared.effect.TheConstants.{MOST_AMOUNT, MOST_TARGET}
use Rattle.carol_store.specs.Effects.{AreAtomsOf, AscendsFrom, IsAmountAt}
use Rattle.carol_store.specs.Kinds.{CellValue, changed}
use Rattle.carol_store.specs.Laws.{AreWithin, EffectsAddLittle}
use Rattle.carol_store.specs.Stores.{AreWords, StaysInWords, apply, at_cell, with_cell}
use Rattle.carol_store.proofs.KindLaws.{changed_within}

-- the cells below this one may have been changed once, and the others not yet
Raised : ℕ → ℕ → List CellValue → Type 0
Raised bound cell [] = Unit {0}
Raised bound zero (value ∷ values) = (unsigned_abs value ≤ bound) × Raised bound zero values
Raised bound (suc cell) (value ∷ values) = (unsigned_abs value ≤ bound + MOST_AMOUNT) × Raised bound cell values

Raised-from : (bound : ℕ) (store : List CellValue) → AreWithin bound store → Raised bound zero store
unfolding Raised
Raised-from bound [] h = tt
Raised-from bound (value ∷ values) h =
    (All-head (λ v. unsigned_abs v ≤ bound) value values h, Raised-from bound values (All-tail (λ v. unsigned_abs v ≤ bound) value values h))

Raised-within : (bound cell : ℕ) (store : List CellValue) → Raised bound cell store → AreWithin (bound + MOST_AMOUNT) store
unfolding Raised
Raised-within bound cell [] h = All-nil (λ v. unsigned_abs v ≤ bound + MOST_AMOUNT)
Raised-within bound zero (value ∷ values) h =
    All-cons (λ v. unsigned_abs v ≤ bound + MOST_AMOUNT) value values (omega (arith, h.0)) (Raised-within bound zero values h.1)
Raised-within bound (suc cell) (value ∷ values) h =
    All-cons (λ v. unsigned_abs v ≤ bound + MOST_AMOUNT) value values h.0 (Raised-within bound cell values h.1)

-- a cell not yet changed is changed
Raised-at_cell : (bound : ℕ) (shape : List CellKind) (least cell : ℕ) (amount : ℤ) (store : List CellValue) → MOST_TARGET ≤ bound → IsAmountAt shape cell amount → least ≤ cell → Raised bound least store → Raised bound (suc cell) (at_cell (λ kind value. changed kind value amount) shape cell store)
unfolding Raised
Raised-at_cell bound [] least cell amount store enough fits low h = absurd fits
Raised-at_cell bound (kind ∷ kinds) least zero amount [] enough fits low h = tt
Raised-at_cell bound (kind ∷ kinds) least (suc cell) amount [] enough fits low h = tt
Raised-at_cell bound (kind ∷ kinds) zero zero amount (value ∷ values) enough fits low h = (changed_within kind value amount bound fits enough h.0, h.1)
Raised-at_cell bound (kind ∷ kinds) (suc least) zero amount (value ∷ values) enough fits low h = absurd (omega arith)
Raised-at_cell bound (kind ∷ kinds) zero (suc cell) amount (value ∷ values) enough fits low h =
    (omega (arith, h.0), Raised-at_cell bound kinds zero cell amount values enough fits (omega arith) h.1)
Raised-at_cell bound (kind ∷ kinds) (suc least) (suc cell) amount (value ∷ values) enough fits low h =
    (h.0, Raised-at_cell bound kinds least cell amount values enough fits (omega arith) h.1)

-- small values fit their words
AreWords-within : (bound : ℕ) (store : List CellValue) → bound < 2 ^ 63 → AreWithin bound store → AreWords store
AreWords-within bound [] low h = tt
AreWords-within bound (value ∷ values) low h =
    let first : unsigned_abs value ≤ bound = All-head (λ v. unsigned_abs v ≤ bound) value values h
    in (fits_signed_from_abs w64 value (omega arith), AreWords-within bound values low (All-tail (λ v. unsigned_abs v ≤ bound) value values h))

-- all atoms of an effect
adds_from : (shape : List CellKind) (least : ℕ) (atoms : List Atom) (bound : ℕ) (store : List CellValue) → AscendsFrom least atoms → AreAtomsOf shape atoms → MOST_TARGET ≤ bound → bound + MOST_AMOUNT < 2 ^ 63 → Raised bound least store → AreWithin (bound + MOST_AMOUNT) (apply shape atoms store) × StaysInWords shape atoms store
adds_from shape least [] bound store up fit enough low h = (Raised-within bound least store h, tt)
adds_from shape least (atom ∷ atoms) bound store up fit enough low h =
    let after : Raised bound (suc atom.cell) (with_cell shape atom store) = Raised-at_cell bound shape least atom.cell atom.value store enough fit.0 up.0 h
    in let rest = adds_from shape (suc atom.cell) atoms bound (with_cell shape atom store) (rw add-one at up.1) fit.1 enough low after
    in (rest.0, (AreWords-within (bound + MOST_AMOUNT) (with_cell shape atom store) low (Raised-within bound (suc atom.cell) (with_cell shape atom store) after), rest.1))

pub adds_little : EffectsAddLittle
adds_little shape effect bound store is enough low h =
    let both = adds_from shape 0 effect bound store is.0 is.1 enough low (Raised-from bound store h)
    in record { within = both.0; words = both.1 }

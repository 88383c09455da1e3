-- Cells stay low.
use Rattle.std.proofs.Common.{◌≡◌, ℕ, ◌+◌, ◌*◌, ◌^◌, ◌<◌, ◌≤◌, suc, Bool, true, false, cond, List, [], ◌∷◌, length, add-zero, zero-mul, arith, length-append}
use Rattle.std.specs.Prelude.{unsigned_abs}
use Rattle.std.specs.List.{AllByRecursion}
use Rattle.std.proofs.lemmas.List.Elements.{All-cons, All-nil, All-weaker}
use Rattle.std.proofs.lemmas.Int.{ints}
use Rattle.carol_store.specs.declared.shape.CellKind.{CellKind}
use Rattle.carol_store.specs.declared.shape.CellKind.TheVariants.{Counter, Peak, Flag}
use Rattle.carol_store.specs.declared.effect.Atom.{Atom}
use Rattle.carol_store.specs.declared.effect.TheConstants.{MOST_AMOUNT, MOST_TARGET}
use Rattle.carol_store.specs.Actions.{chosen_from}
use Rattle.carol_store.specs.Effects.{IsEffect}
use Rattle.carol_store.specs.Kinds.{CellValue, MayHold}
use Rattle.carol_store.specs.Laws.{AddsLittle, AreWithin, EffectsAddLittle}
use Rattle.carol_store.specs.Stores.{IsStore, apply, apply_all, StayInWords}
use Rattle.carol_program.specs.WellFormed.{StartSmall, StartsSmall}
use Rattle.carol_event.specs.declared.event.Event.{Event}
use Rattle.carol_event.specs.declared.event.Event.TheVariants.{Issue}
use Rattle.carol_history.specs.Journals.{journal}
use Rattle.carol_history.specs.Laws.{FewStayLow}

module _ {E : Type 0} where
  -- chosen entries are as many at most, and have what all have
  length-chosen_from : (f : ℕ → Bool) (k : ℕ) (es : List E) → length (chosen_from f k es) ≤ length es
  length-chosen_from f k [] = omega arith
  length-chosen_from f k (e ∷ es) = chosen_at (f k) (chosen_from f (k + 1) es) (length-chosen_from f (k + 1) es)
    where
      chosen_at : (b : Bool) (xs : List E) → length xs ≤ length es → length (cond b (e ∷ xs) xs) ≤ suc (length es)
      chosen_at true xs h = omega arith
      chosen_at false xs h = omega arith

  All-chosen_from : (P : E → Type 0) (f : ℕ → Bool) (k : ℕ) (es : List E) → AllByRecursion P es → AllByRecursion P (chosen_from f k es)
  All-chosen_from P f k [] h = h
  All-chosen_from P f k (e ∷ es) h = chosen_at (f k) (chosen_from f (k + 1) es) (All-chosen_from P f (k + 1) es h.1)
    where
      chosen_at : (b : Bool) (xs : List E) → AllByRecursion P xs → AllByRecursion P (cond b (e ∷ xs) xs)
      chosen_at true xs all = (h.0, all)
      chosen_at false xs all = all

-- there are no more entries than events
pub length-journal : (past : List Event) → length (journal past) ≤ length past
length-journal [] = omega arith
length-journal (Issue session entry effect ∷ past) = rw length-append (omega (arith, length-journal past))
length-journal (event ∷ past) = omega (arith, length-journal past)

-- the values at the start are at most the most target
starts_low : (kind : CellKind) (value : CellValue) → MayHold kind value → StartsSmall kind value → unsigned_abs value ≤ MOST_TARGET
starts_low Counter value may small = omega arith
starts_low Peak value may small = omega arith
starts_low Flag value may small = grind (arith, ints)

start_low : (shape : List CellKind) (store : List CellValue) → IsStore shape store → StartSmall shape store → AreWithin MOST_TARGET store
start_low [] [] is small = All-nil (λ v. unsigned_abs v ≤ MOST_TARGET)
start_low (kind ∷ kinds) (value ∷ values) is small =
    All-cons (λ v. unsigned_abs v ≤ MOST_TARGET) value values (starts_low kind value is.0 small.0) (start_low kinds values is.1 small.1)
start_low [] (value ∷ values) is small = absurd is
start_low (kind ∷ kinds) [] is small = absurd is

-- so much is added at most, and no cell leaves its word
effects_add : EffectsAddLittle → (shape : List CellKind) (effects : List (List Atom)) (bound : ℕ) (store : List CellValue) → AllByRecursion (IsEffect shape) effects → MOST_TARGET ≤ bound → bound + length effects * MOST_AMOUNT < 2 ^ 63 → AreWithin bound store → AreWithin (bound + length effects * MOST_AMOUNT) (apply_all shape effects store) × StayInWords shape effects store
effects_add law shape [] bound store fit enough low h = (rw (zero-mul, add-zero) h, tt)
effects_add law shape (effect ∷ effects) bound store fit enough low h =
    let one : AddsLittle shape effect bound store = law shape effect bound store fit.0 enough (omega arith) h
    in let e : bound + MOST_AMOUNT + length effects * MOST_AMOUNT ≡ bound + suc (length effects) * MOST_AMOUNT = omega arith
    in let rest = effects_add law shape effects (bound + MOST_AMOUNT) (apply shape effect store) fit.1 (omega arith) (omega arith) one.within
    in (rw (← e) rest.0, (one.words, rest.1))

-- how many of the entries are chosen at most
few_chosen : (chosen : ℕ → Bool) (past : List Event) → length past ≤ 131_072 → length (chosen_from chosen 0 (journal past)) ≤ 131_072
few_chosen chosen past few = omega (arith, length-chosen_from chosen 0 (journal past), length-journal past)

pub few_stay_low : EffectsAddLittle → FewStayLow
few_stay_low law p past is small fit few =
    let adds = λ (chosen : ℕ → Bool). effects_add law p.shape (chosen_from chosen 0 (journal past)) 1_000_000_000_000 p.initial
    (All-chosen_from (IsEffect p.shape) chosen 0 (journal past) fit) (omega arith) (omega (arith, few_chosen chosen past few)) (start_low p.shape p.initial is small)
    in record {
      words = λ chosen. (adds chosen).1;
      low = λ chosen.
          All-weaker (λ number. unsigned_abs number ≤ 1_000_000_000_000 + length (chosen_from chosen 0 (journal past)) * 1_000_000_000) (λ number. unsigned_abs number < 140_000_000_000_000)
          (λ number le. omega (arith, few_chosen chosen past few)) (apply_all p.shape (chosen_from chosen 0 (journal past)) p.initial)
          (adds chosen).0;
    }

-- What an operation leaves fits: the stores that it asks for, and the values that it returns.
use Rattle.std.proofs.Common.{ℕ, zero, suc, ◌+◌, ◌*◌, ◌^◌, ◌<◌, ◌≤◌, Bool, true, false, List, [], ◌∷◌, ◌++◌, length, arith}
use Rattle.std.specs.Prelude.{ℤ, pos, negsuc, unsigned_abs, if◌then◌else◌, nat_lt, ◌-◌, MatchBool}
use Rattle.std.proofs.lemmas.Int.{ints}
use Rattle.carol_store.specs.declared.shape.CellKind.{CellKind}
use Rattle.carol_store.specs.Kinds.{CellValue}
use Rattle.carol_store.specs.Stores.{IsStore}
use Rattle.carol_formula.specs.Bounds.{AreNear}
use Rattle.carol_formula.specs.Claim.{truth}
use Rattle.carol_formula.specs.Linear.{Linear, AllBelow}
use Rattle.carol_formula.specs.Value.{value_at}
use Rattle.carol_formula.specs.Weight.{mass}
use Rattle.carol_formula.proofs.Weights.{mass-bound, sum_at-near}
use Rattle.carol_program.specs.Bodies.{Body, Query, Issue, Release, Branch, Return}
use Rattle.carol_program.specs.Variables.{number_in, query_variable}
use Rattle.carol_program.specs.WellFormed.{AreSmall, IsFitBody, IsTermOver, Setting}
use Rattle.carol_reading.specs.Marks.{Mark, Asked, Issued, Released, Returned}
use Rattle.carol_reading.specs.Readings.{Reads, with_query}
use Rattle.carol_event.specs.Numbers.{Each, IsValue, IsWide}

-- the greatest absolute value of a cell's value
abbrev pub value_bound : ℕ
value_bound = 9223372036854775808

-- ---- numbers are near

near_value : (z : ℤ) → IsValue z → unsigned_abs z ≤ value_bound
near_value (pos n) h = omega arith
near_value (negsuc n) h = omega arith

near_number_in : (store : List CellValue) (v : ℕ) → Each IsValue store → unsigned_abs (number_in store v) ≤ value_bound
near_number_in [] v h = omega arith
near_number_in (value ∷ values) zero h = near_value value h.0
near_number_in (value ∷ values) (suc v) h = near_number_in values v h.1

either_near : (b : Bool) (x y : ℤ) → unsigned_abs x ≤ value_bound → unsigned_abs y ≤ value_bound → unsigned_abs (if b then x else y) ≤ value_bound
either_near true x y h g = h
either_near false x y h g = g

near_query : (slot : ℕ) (store : List CellValue) (f : ℕ → ℤ) → Each IsValue store → AreNear value_bound f → AreNear value_bound (with_query slot store f)
near_query slot store f h near v =
    let base = query_variable slot 0
    in either_near (nat_lt v base) (f v) _ (near v) (either_near (nat_lt v (base + length store)) (number_in store (v - base)) (f v) (near_number_in store (v - base) h) (near v))

-- ---- values of terms

small_below : (ps : List (ℕ × ℤ)) → AreSmall ps → AllBelow 1000000001 ps
small_below [] h = tt
small_below (p ∷ ps) h = (omega (arith, h.0), small_below ps h.1)

light : (m n r : ℕ) → m ≤ n * 1000000001 → n ≤ 256 → r ≤ 1000000000000000 → m * value_bound + r < 2 ^ 126
light m n r h k l = omega arith

value_small : {ranges : List (ℕ × ℕ)} (t : Linear) (f : ℕ → ℤ) → IsTermOver ranges t → AreNear value_bound f → unsigned_abs (value_at t f) < 2 ^ 126
value_small t f h near =
    let sum = sum_at-near value_bound t.pairs f near
    in let low = light (mass t.pairs) (length t.pairs) (unsigned_abs t.rest) (mass-bound 1000000001 t.pairs (small_below t.pairs h.small.0)) h.short h.small.1
    in omega (arith, ints, sum, low)

wide : (z : ℤ) → unsigned_abs z < 2 ^ 126 → IsWide z
wide (pos n) h = omega arith
wide (negsuc n) h = omega arith

-- ---- marks

-- the stores that were asked for fit
abbrev pub AskedFit : List Mark → Type 0
AskedFit [] = Unit {0}
AskedFit (Asked guard store ∷ marks) = Each IsValue store × AskedFit marks
AskedFit (Issued effect ∷ marks) = AskedFit marks
AskedFit (Released ∷ marks) = AskedFit marks
AskedFit (Returned value ∷ marks) = AskedFit marks

-- a store is one of the shape, and a returned value fits
abbrev pub MarkFits : List CellKind → Mark → Type 0
MarkFits kinds (Asked guard store) = IsStore kinds store
MarkFits kinds (Issued effect) = Unit {0}
MarkFits kinds Released = Unit {0}
MarkFits kinds (Returned value) = IsWide value

on_side : {first second third : Type 0} (b : Bool) → MatchBool b first second → (first → third) → (second → third) → third
on_side true h f g = f h
on_side false h f g = g h

pub mark_fits : (s : Setting) (slots : List ℕ) (kinds : List CellKind) (body : Body) (f : ℕ → ℤ) (before : List Mark) (mark : Mark) → IsFitBody s slots body → AreNear value_bound f → AskedFit before → Reads kinds body f (before ++ mark ∷ []) → MarkFits kinds mark
mark_fits s slots kinds body f before (Issued effect) fit near asked r = tt
mark_fits s slots kinds body f before Released fit near asked r = tt
mark_fits s slots kinds (Query number guard slot next) f [] (Asked g x) fit near asked r = r.1
mark_fits s slots kinds (Query number guard slot next) f [] (Returned v) fit near asked r = absurd r
mark_fits s slots kinds (Query number guard slot next) f (Asked g x ∷ before) mark fit near asked r = mark_fits s (slot ∷ slots) kinds next (with_query slot x f) before mark fit.1 (near_query slot x f asked.0 near) asked.1 r.2
mark_fits s slots kinds (Query number guard slot next) f (Issued e ∷ before) mark fit near asked r = absurd r
mark_fits s slots kinds (Query number guard slot next) f (Released ∷ before) mark fit near asked r = absurd r
mark_fits s slots kinds (Query number guard slot next) f (Returned v ∷ before) mark fit near asked r = absurd r
mark_fits s slots kinds (Issue number parts next) f [] (Asked g x) fit near asked r = absurd r
mark_fits s slots kinds (Issue number parts next) f [] (Returned v) fit near asked r = absurd r
mark_fits s slots kinds (Issue number parts next) f (Asked g x ∷ before) mark fit near asked r = absurd r
mark_fits s slots kinds (Issue number parts next) f (Issued e ∷ before) mark fit near asked r = mark_fits s slots kinds next f before mark fit.1 near asked r.1
mark_fits s slots kinds (Issue number parts next) f (Released ∷ before) mark fit near asked r = absurd r
mark_fits s slots kinds (Issue number parts next) f (Returned v ∷ before) mark fit near asked r = absurd r
mark_fits s slots kinds (Release number next) f [] (Asked g x) fit near asked r = absurd r
mark_fits s slots kinds (Release number next) f [] (Returned v) fit near asked r = absurd r
mark_fits s slots kinds (Release number next) f (Asked g x ∷ before) mark fit near asked r = absurd r
mark_fits s slots kinds (Release number next) f (Issued e ∷ before) mark fit near asked r = absurd r
mark_fits s slots kinds (Release number next) f (Released ∷ before) mark fit near asked r = mark_fits s slots kinds next f before mark fit near asked r
mark_fits s slots kinds (Release number next) f (Returned v ∷ before) mark fit near asked r = absurd r
mark_fits s slots kinds (Branch number test first second) f [] mark fit near asked r =
    on_side (truth test f) r (mark_fits s slots kinds first f [] mark fit.1 near asked) (mark_fits s slots kinds second f [] mark fit.2 near asked)
mark_fits s slots kinds (Branch number test first second) f (m ∷ before) mark fit near asked r =
    on_side (truth test f) r (mark_fits s slots kinds first f (m ∷ before) mark fit.1 near asked) (mark_fits s slots kinds second f (m ∷ before) mark fit.2 near asked)
mark_fits s slots kinds (Return number value) f [] (Asked g x) fit near asked r = absurd r
mark_fits s slots kinds (Return number value) f [] (Returned v) fit near asked r = rw r (wide (value_at value f) (value_small value f fit near))
mark_fits s slots kinds (Return number value) f (Asked g x ∷ before) mark fit near asked r = absurd r
mark_fits s slots kinds (Return number value) f (Issued e ∷ before) mark fit near asked r = absurd r
mark_fits s slots kinds (Return number value) f (Released ∷ before) mark fit near asked r = absurd r
mark_fits s slots kinds (Return number value) f (Returned v ∷ []) mark fit near asked r = absurd r
mark_fits s slots kinds (Return number value) f (Returned v ∷ m ∷ before) mark fit near asked r = absurd r

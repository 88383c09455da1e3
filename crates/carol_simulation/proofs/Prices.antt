-- What marks cost: a query two acts and any other mark one, and an issue its deliveries besides.
use Rattle.std.proofs.Common.{◌≡◌, ℕ, suc, ◌+◌, ◌*◌, ◌≤◌, Bool, true, false, List, [], ◌∷◌, ◌++◌, arith}
use Rattle.std.specs.Prelude.{ℤ, MatchBool, max}
use Rattle.std.proofs.Math.Nat.{mul-suc, mul-le-mul_left, le-max_left, le-max_right}
use Rattle.carol_store.specs.declared.shape.CellKind.{CellKind}
use Rattle.carol_formula.specs.Claim.{truth}
use Rattle.carol_program.specs.Bodies.{Body, Query, Issue, Release, Branch, Return}
use Rattle.carol_reading.specs.Marks.{Mark, Asked, Issued, Released, Returned}
use Rattle.carol_reading.specs.Readings.{Reads, with_query}
use Rattle.carol_history.specs.Bounds.{longest, most_issues}

abbrev pub price : ℕ → Mark → ℕ
price k (Asked guard store) = 2
price k (Issued effect) = 1 + k
price k Released = 1
price k (Returned value) = 1

abbrev pub prices : ℕ → List Mark → ℕ
prices k [] = 0
prices k (mark ∷ marks) = price k mark + prices k marks

pub prices_push : (k : ℕ) (before : List Mark) (mark : Mark) → prices k (before ++ mark ∷ []) ≡ prices k before + price k mark
prices_push k [] mark = omega arith
prices_push k (m ∷ before) mark = omega (arith, prices_push k before mark)

pub price_some : (k : ℕ) (mark : Mark) → 1 ≤ price k mark
price_some k (Asked guard store) = omega arith
price_some k (Issued effect) = omega arith
price_some k Released = omega arith
price_some k (Returned value) = omega arith

one_more : (k n : ℕ) → k * (1 + n) ≡ k * n + k
one_more k n = let e : 1 + n ≡ suc n = omega arith in rw e (mul-suc k n)

on_left : (k a b c d x : ℕ) → x ≤ a + k * c → x ≤ max a b + k * max c d
on_left k a b c d x h = omega (arith, le-max_left a b, mul-le-mul_left {m = c} {n = max c d} k (le-max_left c d))

on_right : (k a b c d x : ℕ) → x ≤ b + k * d → x ≤ max a b + k * max c d
on_right k a b c d x h = omega (arith, le-max_right a b, mul-le-mul_left {m = d} {n = max c d} k (le-max_right c d))

on_sides : {A B C : Type 0} (t : Bool) → MatchBool t A B → (A → C) → (B → C) → C
on_sides true h f g = f h
on_sides false h f g = g h

-- what a body reads costs at most what its dearest path does
pub prices_within : (k : ℕ) (kinds : List CellKind) (body : Body) (f : ℕ → ℤ) (before : List Mark) → Reads kinds body f before → prices k before ≤ longest body + k * most_issues body
prices_within k kinds body f [] r = omega arith
prices_within k kinds (Query number guard slot next) f (Asked g x ∷ before) r = omega (arith, prices_within k kinds next (with_query slot x f) before r.2)
prices_within k kinds (Query number guard slot next) f (Issued e ∷ before) r = absurd r
prices_within k kinds (Query number guard slot next) f (Released ∷ before) r = absurd r
prices_within k kinds (Query number guard slot next) f (Returned v ∷ before) r = absurd r
prices_within k kinds (Issue number parts next) f (Asked g x ∷ before) r = absurd r
prices_within k kinds (Issue number parts next) f (Issued e ∷ before) r = omega (arith, prices_within k kinds next f before r.1, one_more k (most_issues next))
prices_within k kinds (Issue number parts next) f (Released ∷ before) r = absurd r
prices_within k kinds (Issue number parts next) f (Returned v ∷ before) r = absurd r
prices_within k kinds (Release number next) f (Asked g x ∷ before) r = absurd r
prices_within k kinds (Release number next) f (Issued e ∷ before) r = absurd r
prices_within k kinds (Release number next) f (Released ∷ before) r = omega (arith, prices_within k kinds next f before r)
prices_within k kinds (Release number next) f (Returned v ∷ before) r = absurd r
prices_within k kinds (Branch number test first second) f (m ∷ before) r =
    on_sides (truth test f) r
    (λ h. on_left k (longest first) (longest second) (most_issues first) (most_issues second) _ (prices_within k kinds first f (m ∷ before) h))
    (λ h. on_right k (longest first) (longest second) (most_issues first) (most_issues second) _ (prices_within k kinds second f (m ∷ before) h))
prices_within k kinds (Return number value) f (Asked g x ∷ before) r = absurd r
prices_within k kinds (Return number value) f (Issued e ∷ before) r = absurd r
prices_within k kinds (Return number value) f (Released ∷ before) r = absurd r
prices_within k kinds (Return number value) f (Returned v ∷ []) r = omega arith
prices_within k kinds (Return number value) f (Returned v ∷ m ∷ before) r = absurd r

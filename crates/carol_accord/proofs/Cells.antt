-- The stores that numbers stand for, and what a guard says of them.
use Rattle.std.proofs.Common.{◌≡◌, ◌≢◌, ℕ, zero, suc, ◌+◌, ◌-◌, ◌<◌, ◌≤◌, Bool, true, false, inl, inr, List, [], ◌∷◌, length, arith, refl, sym, ◌∙◌, ap}
use Rattle.std.specs.Prelude.{ℤ, ◌+ℤ◌, ◌*ℤ◌, nat_lt, ◌&&◌, ◌||◌, not, if◌then◌else◌, Some, slice_get}
use Rattle.std.proofs.lemmas.Bool.{ltb-true, ltb-false}
use Rattle.carol_store.specs.declared.shape.CellKind.{CellKind}
use Rattle.carol_store.specs.Kinds.{CellValue, stepped}
use Rattle.carol_store.specs.Stores.{IsStore, at_cell}
use Rattle.carol_formula.specs.Claim.{Claim, True, False, Le, Eq, Ne, And, Or, Not, EachTerm, is_at_most_zero, truth}
use Rattle.carol_formula.specs.Linear.{Linear, is_zero}
use Rattle.carol_formula.specs.Value.{sum_at, value_at}
use Rattle.carol_program.specs.Variables.{IsAmong, AreAmong, guard_variables, number_in, number_in_two, store_at}
use Rattle.carol_program.specs.WellFormed.{IsTermOver}
use Rattle.carol_accord.specs.Broken.{here_of, there_of}
use Rattle.carol_accord.specs.Parts.{IsGuard}

-- ---- formulas are the same where the variables that they may use have the same numbers

module _ (ranges : List (ℕ × ℕ)) (f g : ℕ → ℤ) (agree : (v : ℕ) → IsAmong ranges v → f v ≡ g v) where
  sum_at-same : (ps : List (ℕ × ℤ)) → AreAmong ranges ps → sum_at ps f ≡ sum_at ps g
  sum_at-same [] h = refl
  sum_at-same (p ∷ ps) h = ap (λ z. (p.1 *ℤ z) +ℤ sum_at ps f) (agree p.0 h.0) ∙ ap (λ z. (p.1 *ℤ g p.0) +ℤ z) (sum_at-same ps h.1)

  value_at-same : (t : Linear) → IsTermOver ranges t → value_at t f ≡ value_at t g
  value_at-same t h = ap (λ z. z +ℤ t.rest) (sum_at-same t.pairs h.variables)

  truth-same : (c : Claim) → EachTerm (IsTermOver ranges) c → truth c f ≡ truth c g
  truth-same True h = refl
  truth-same False h = refl
  truth-same (Le t) h = ap is_at_most_zero (value_at-same t h)
  truth-same (Eq t) h = ap is_zero (value_at-same t h)
  truth-same (Ne t) h = ap (λ z. not (is_zero z)) (value_at-same t h)
  truth-same (And a b) h = ap (λ x. x && truth b f) (truth-same a h.0) ∙ ap (λ y. truth a g && y) (truth-same b h.1)
  truth-same (Or a b) h = ap (λ x. x || truth b f) (truth-same a h.0) ∙ ap (λ y. truth a g || y) (truth-same b h.1)
  truth-same (Not a) h = ap not (truth-same a h)

-- ---- the cells that variables stand for

pub cells-at : (kinds : List CellKind) (base : ℕ) (f : ℕ → ℤ) (i : ℕ) → i < length kinds → number_in (store_at kinds base f) i ≡ f (base + i)
cells-at [] base f i h = absurd (omega arith)
cells-at (kind ∷ kinds) base f zero h = ap f (omega arith)
cells-at (kind ∷ kinds) base f (suc i) h = cells-at kinds (base + 1) f i (omega arith) ∙ ap f (omega arith)

pub cells-same : (kinds : List CellKind) (base other : ℕ) (f g : ℕ → ℤ) → ((i : ℕ) → i < length kinds → f (base + i) ≡ g (other + i)) → store_at kinds base f ≡ store_at kinds other g
cells-same [] base other f g h = refl
cells-same (kind ∷ kinds) base other f g h =
    let first : f base ≡ g other = ap f (omega arith) ∙ h zero (omega arith) ∙ ap g (omega arith)
    in let more : store_at kinds (base + 1) f ≡ store_at kinds (other + 1) g = cells-same kinds (base + 1) (other + 1) f g (λ i lt. ap f (omega arith) ∙ h (suc i) (omega arith) ∙ ap g (omega arith))
    in ap (λ (z : ℤ). z ∷ store_at kinds (base + 1) f) first ∙ ap (λ (cells : List CellValue). g other ∷ cells) more

-- numbers stand for any store of the shape
pub cells-back : (kinds : List CellKind) (base : ℕ) (f : ℕ → ℤ) (store : List CellValue) → IsStore kinds store → ((i : ℕ) → i < length kinds → f (base + i) ≡ number_in store i) → store_at kinds base f ≡ store
cells-back [] base f [] is h = refl
cells-back [] base f (value ∷ store) is h = absurd is
cells-back (kind ∷ kinds) base f [] is h = absurd is
cells-back (kind ∷ kinds) base f (value ∷ store) is h =
    let first : f base ≡ value = ap f (omega arith) ∙ h zero (omega arith)
    in let more : store_at kinds (base + 1) f ≡ store = cells-back kinds (base + 1) f store is.1 (λ i lt. ap f (omega arith) ∙ h (suc i) (omega arith))
    in ap (λ (z : ℤ). z ∷ store_at kinds (base + 1) f) first ∙ ap (λ (cells : List CellValue). value ∷ cells) more

-- ---- a step

pub cells-stepped : (up : Bool) (kind : CellKind) (kinds : List CellKind) (cell base : ℕ) (f g : ℕ → ℤ) → slice_get kinds cell ≡ Some kind → g (base + cell) ≡ stepped kind up (f (base + cell)) → ((i : ℕ) → i < length kinds → i ≢ cell → g (base + i) ≡ f (base + i)) →
    at_cell (λ kind value. stepped kind up value) kinds cell (store_at kinds base f) ≡ store_at kinds base g
cells-stepped up kind [] cell base f g at own others = refl
cells-stepped up kind (first ∷ kinds) zero base f g at own others =
    let same : first ≡ kind = cc
    in let changed : stepped first up (f base) ≡ g base = ap (λ (k : CellKind). stepped k up (f base)) same ∙ ap (λ (v : ℕ). stepped kind up (f v)) (omega arith) ∙ sym own ∙ ap g (omega arith)
    in let more : store_at kinds (base + 1) f ≡ store_at kinds (base + 1) g = cells-same kinds (base + 1) (base + 1) f g (λ i lt. ap f (omega arith) ∙ sym (others (suc i) (omega arith) (λ e. omega arith)) ∙ ap g (omega arith))
    in ap (λ (z : ℤ). z ∷ store_at kinds (base + 1) f) changed ∙ ap (λ (cells : List CellValue). g base ∷ cells) more
cells-stepped up kind (first ∷ kinds) (suc cell) base f g at own others =
    let same : f base ≡ g base = ap f (omega arith) ∙ sym (others zero (omega arith) (λ e. omega arith)) ∙ ap g (omega arith)
    in let more : at_cell (λ kind value. stepped kind up value) kinds cell (store_at kinds (base + 1) f) ≡ store_at kinds (base + 1) g =
    cells-stepped up kind kinds cell (base + 1) f g at (ap g (omega arith) ∙ own ∙ ap (λ (v : ℕ). stepped kind up (f v)) (omega arith))
    (λ i lt n. ap g (omega arith) ∙ others (suc i) (omega arith) (λ e. n (omega arith)) ∙ ap f (omega arith))
    in ap (λ (z : ℤ). z ∷ at_cell (λ kind value. stepped kind up value) kinds cell (store_at kinds (base + 1) f)) same ∙ ap (λ (cells : List CellValue). g base ∷ cells) more

-- ---- a guard

either-agrees : (b : Bool) (x y z : ℤ) → (b ≡ true → x ≡ z) → (b ≡ false → y ≡ z) → (if b then x else y) ≡ z
either-agrees true x y z h k = h refl
either-agrees false x y z h k = k refl

two-agree : (kinds : List CellKind) → length kinds ≤ 16 → (f : ℕ → ℤ) (v : ℕ) → IsAmong (guard_variables kinds) v → number_in_two (here_of kinds f) (there_of kinds f) v ≡ f v
two-agree kinds few f v (inl h) = either-agrees (nat_lt v 16) (number_in (here_of kinds f) v) (number_in (there_of kinds f) (v - 16)) (f v)
    (λ e. cells-at kinds 0 f v (omega (arith, h.1)) ∙ ap f (omega arith))
    (λ e. absurd (omega (arith, h.1, ltb-false v 16 e)))
two-agree kinds few f v (inr (inl h)) = either-agrees (nat_lt v 16) (number_in (here_of kinds f) v) (number_in (there_of kinds f) (v - 16)) (f v)
    (λ e. absurd (omega (arith, h.0, ltb-true v 16 e)))
    (λ e. cells-at kinds 16 f (v - 16) (omega (arith, h.0, h.1)) ∙ ap f (omega (arith, h.0)))
two-agree kinds few f v (inr (inr h)) = absurd h

-- a guard says of the numbers what it says of the stores that they stand for
pub truth-stores : (kinds : List CellKind) (guard : Claim) → IsGuard kinds guard → (f : ℕ → ℤ) → truth guard (number_in_two (here_of kinds f) (there_of kinds f)) ≡ truth guard f
truth-stores kinds guard g f = truth-same (guard_variables kinds) (number_in_two (here_of kinds f) (there_of kinds f)) f (two-agree kinds g.few f) guard g.over.terms

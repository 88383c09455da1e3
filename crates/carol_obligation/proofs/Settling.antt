-- Which variables are settled behind a way, and numbers that keep those that are.
use Rattle.std.proofs.Common.{◌≡◌, ℕ, ◌+◌, ◌*◌, ◌<◌, ◌≤◌, inl, inr, List, [], ◌∷◌, length, get_or, map, arith, ◌∙◌, ap, subst}
use Rattle.std.specs.Prelude.{◌⊎◌, ℤ, pos, nat_lt, if◌then◌else◌}
use Rattle.std.specs.List.{AllByRecursion}
use Rattle.std.proofs.lemmas.Bool.{cond-true, cond-false, le-ltb, lt-ltb}
use Rattle.carol_store.specs.declared.shape.CellKind.{CellKind}
use Rattle.carol_store.specs.Kinds.{CellValue}
use Rattle.carol_program.specs.Variables.{IsAmong, number_in, number_of_args, query_variable, store_at}
use Rattle.carol_reading.specs.Readings.{placed}
use Rattle.carol_obligation.specs.Ways.{Way}
use Rattle.carol_obligation.specs.Decoded.{round_variable, args_at}
use Rattle.carol_obligation.proofs.Agreeing.{AgreeOn}
use Rattle.carol_obligation.proofs.Seen.{number_of_args-at, store_at-same, args_from-same, placed-out, placed-in, slots_of, ranges_of}

-- a parameter's variable, one of a slot below this one, or one of a round up to this one
abbrev IsSettled : ℕ → ℕ → ℕ → Type 0
IsSettled low rounds v = ((32 ≤ v) × (v < 64 + 16 * low)) ⊎ ((192 ≤ v) × (v < 208 + 16 * rounds))

-- the numbers g are those of f where they are settled
pub record Keeps (low rounds : ℕ) (f g : ℕ → ℤ) : Type 0 where
  pub each : (v : ℕ) → IsSettled low rounds v → g v ≡ f v

abbrev pub AreBelow : ℕ → List ℕ → Type 0
AreBelow low slots = AllByRecursion (λ slot. slot < low) slots

pub below-more : (low high : ℕ) (slots : List ℕ) → low ≤ high → AreBelow low slots → AreBelow high slots
below-more low high [] le h = tt
below-more low high (slot ∷ slots) le h = (omega (arith, h.0), below-more low high slots le h.1)

-- where more slots are settled, those that were settled before are kept too
pub keeps-fewer : {low rounds : ℕ} {f g : ℕ → ℤ} (high : ℕ) → low ≤ high → Keeps high rounds f g → Keeps low rounds f g
keeps-fewer {low = low} {rounds = rounds} {f = f} {g = g} high le keeps = record { each = fewer }
  where
    fewer : (v : ℕ) → IsSettled low rounds v → g v ≡ f v
    fewer v (inl h) = keeps.each v (inl (h.0, omega (arith, h.1)))
    fewer v (inr h) = keeps.each v (inr h)

-- ---- where a body may look, all is settled

slots-settled : (cells low rounds : ℕ) (slots : List ℕ) (v : ℕ) → cells ≤ 16 → AreBelow low slots → IsAmong (map (λ slot. (query_variable slot 0, cells)) slots) v → IsSettled low rounds v
slots-settled cells low rounds [] v few below h = absurd h
slots-settled cells low rounds (slot ∷ slots) v few below (inl h) = inl (omega (arith, h.0), omega (arith, h.1, below.0))
slots-settled cells low rounds (slot ∷ slots) v few below (inr h) = slots-settled cells low rounds slots v few below.1 h

pub kept-agree : (kinds : List CellKind) (params : ℕ) (way : Way) {low rounds : ℕ} {f g : ℕ → ℤ} → length kinds ≤ 16 → params ≤ 16 → AreBelow low (slots_of way) → Keeps low rounds f g → AgreeOn (ranges_of kinds params way) g f
kept-agree kinds params way {low = low} {rounds = rounds} few short below keeps v among = keeps.each v (settled v among)
  where
    settled : (v : ℕ) → IsAmong (ranges_of kinds params way) v → IsSettled low rounds v
    settled v (inl h) = inl (h.0, omega (arith, h.1))
    settled v (inr h) = slots-settled (length kinds) low rounds (slots_of way) v few below h

-- ---- one store more

module _ (kinds : List CellKind) (store : List CellValue) (f : ℕ → ℤ) (few : length kinds ≤ 16) (long : length store ≡ length kinds) {low : ℕ} {g : ℕ → ℤ} where
  module _ {rounds : ℕ} (slot : ℕ) (next : slot ≡ low) (room : low < 8) (keeps : Keeps (low + 1) rounds (placed (query_variable slot 0) store f) g) where
    pub query-keeps : Keeps low rounds f g
    query-keeps = record { each = before }
      where
        before : (v : ℕ) → IsSettled low rounds v → g v ≡ f v
        before v (inl h) = keeps.each v (inl (h.0, omega (arith, h.1))) ∙ placed-out (query_variable slot 0) store f v (λ s. omega (arith, s.0, h.1))
        before v (inr h) = keeps.each v (inr h) ∙ placed-out (query_variable slot 0) store f v (λ s. omega (arith, s.1, h.0))

    pub query-placed : store_at kinds (query_variable slot 0) g ≡ store
    query-placed = store_at-same kinds (query_variable slot 0) store g long
        (λ i lt. keeps.each (query_variable slot 0 + i) (inl (omega arith, omega arith)) ∙ placed-in (query_variable slot 0) store f i lt)

  module _ (rounds : ℕ) (room : low ≤ 8) (keeps : Keeps low (rounds + 1) (placed (round_variable (rounds + 1) 0) store f) g) where
    pub round-keeps : Keeps low rounds f g
    round-keeps = record { each = before }
      where
        before : (v : ℕ) → IsSettled low rounds v → g v ≡ f v
        before v (inl h) = keeps.each v (inl h) ∙ placed-out (round_variable (rounds + 1) 0) store f v (λ s. omega (arith, s.0, h.1))
        before v (inr h) = keeps.each v (inr (h.0, omega (arith, h.1))) ∙ placed-out (round_variable (rounds + 1) 0) store f v (λ s. omega (arith, s.0, h.1))

    pub round-placed : store_at kinds (round_variable (rounds + 1) 0) g ≡ store
    round-placed = store_at-same kinds (round_variable (rounds + 1) 0) store g long
        (λ i lt. keeps.each (round_variable (rounds + 1) 0 + i) (inr (omega arith, omega arith)) ∙ placed-in (round_variable (rounds + 1) 0) store f i lt)

-- ---- before any statement

module _ (kinds : List CellKind) (args : List ℤ) (store : List CellValue) {g : ℕ → ℤ} (few : length kinds ≤ 16) (keeps : Keeps 0 0 (placed (round_variable 0 0) store (number_of_args args)) g) where
  pub start-args : (params : ℕ) → length args ≡ params → params ≤ 16 → args_at params g ≡ args
  start-args params count short = subst (λ n. args_at n g ≡ args) count (args_from-same 0 args g
      (λ i lt. keeps.each (32 + (0 + i)) (inl (omega arith, omega arith)) ∙ placed-out (round_variable 0 0) store (number_of_args args) (32 + (0 + i)) (λ s. omega (arith, s.0)) ∙ argument i))
    where
      argument : (i : ℕ) → number_of_args args (32 + (0 + i)) ≡ get_or args i (pos 0)
      argument i = number_of_args-at args (32 + (0 + i)) (omega arith) ∙ ap (λ n. get_or args n (pos 0)) (omega arith)

  pub start-placed : length store ≡ length kinds → store_at kinds (round_variable 0 0) g ≡ store
  start-placed long = store_at-same kinds (round_variable 0 0) store g long (λ i lt. keeps.each (round_variable 0 0 + i) (inr (omega arith, omega arith)) ∙ placed-in (round_variable 0 0) store (number_of_args args) i lt)

-- ---- behind all statements

-- the cells' own variables have the store's numbers
abbrev pub with_cells : List CellValue → (ℕ → ℤ) → ℕ → ℤ
with_cells store f v = if nat_lt v 32 then number_in store v else f v

pub cells-keep : {low rounds : ℕ} (store : List CellValue) (f : ℕ → ℤ) → Keeps low rounds f (with_cells store f)
cells-keep {low = low} {rounds = rounds} store f = record { each = before }
  where
    before : (v : ℕ) → IsSettled low rounds v → with_cells store f v ≡ f v
    before v (inl h) = cond-false (nat_lt v 32) (number_in store v) (f v) (le-ltb v 32 h.0)
    before v (inr h) = cond-false (nat_lt v 32) (number_in store v) (f v) (le-ltb v 32 (omega (arith, h.0)))

pub cells-at : (store : List CellValue) (f : ℕ → ℤ) (cell : ℕ) → cell < 32 → with_cells store f cell ≡ number_in store cell
cells-at store f cell h = cond-true (nat_lt cell 32) (number_in store cell) (f cell) (lt-ltb cell 32 h)

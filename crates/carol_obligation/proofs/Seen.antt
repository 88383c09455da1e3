-- The numbers that a body sees behind a way: those of its arguments, and of the queries on the way.
use Rattle.std.proofs.Common.{◌≡◌, ℕ, zero, suc, ◌+◌, ◌-◌, ◌<◌, ◌≤◌, true, false, inl, inr, List, [], ◌∷◌, length, get_or, arith, refl, ◌∙◌, ap}
use Rattle.std.specs.Prelude.{ℤ, pos, nat_lt}
use Rattle.std.proofs.lemmas.Bool.{cond_both, cond-false, le-ltb, ltb-true, ltb-false}
use Rattle.carol_store.specs.declared.shape.CellKind.{CellKind}
use Rattle.carol_store.specs.Kinds.{CellValue}
use Rattle.carol_program.specs.Variables.{body_variables, number_in, number_of_args, query_variable, store_at}
use Rattle.carol_reading.specs.Readings.{placed, with_query}
use Rattle.carol_obligation.specs.Ways.{Way, Asks, Puts, Frees, Tests}
use Rattle.carol_obligation.specs.Decoded.{args_from, args_at}
use Rattle.carol_obligation.proofs.Agreeing.{AgreeOn}

-- ---- stores and arguments among numbers

pub length-store_at : (kinds : List CellKind) (base : ℕ) (f : ℕ → ℤ) → length (store_at kinds base f) ≡ length kinds
length-store_at [] base f = refl
length-store_at (kind ∷ kinds) base f = ap suc (length-store_at kinds (base + 1) f)

pub store_at-at : (kinds : List CellKind) (base : ℕ) (f : ℕ → ℤ) (i : ℕ) → i < length kinds → number_in (store_at kinds base f) i ≡ f (base + i)
store_at-at [] base f i h = absurd (omega arith)
store_at-at (kind ∷ kinds) base f zero h = ap f (omega arith)
store_at-at (kind ∷ kinds) base f (suc i) h = store_at-at kinds (base + 1) f i (omega arith) ∙ ap f (omega arith)

args_from-at : (param more : ℕ) (f : ℕ → ℤ) (i : ℕ) → i < more → get_or (args_from param more f) i (pos 0) ≡ f (32 + (param + i))
args_from-at param zero f i h = absurd (omega arith)
args_from-at param (suc more) f zero h = ap f (omega arith)
args_from-at param (suc more) f (suc i) h = args_from-at (param + 1) more f i (omega arith) ∙ ap f (omega arith)

pub number_of_args-at : (args : List ℤ) (v : ℕ) → 32 ≤ v → number_of_args args v ≡ get_or args (v - 32) (pos 0)
number_of_args-at args v h = cond-false (nat_lt v 32) _ _ (le-ltb v 32 h)

-- numbers among which a store stands give it back
pub store_at-same : (kinds : List CellKind) (base : ℕ) (store : List CellValue) (f : ℕ → ℤ) → length store ≡ length kinds → ((i : ℕ) → i < length store → f (base + i) ≡ number_in store i) → store_at kinds base f ≡ store
store_at-same [] base [] f e h = refl
store_at-same [] base (value ∷ values) f e h = absurd (omega arith)
store_at-same (kind ∷ kinds) base [] f e h = absurd (omega arith)
store_at-same (kind ∷ kinds) base (value ∷ values) f e h =
    ap (λ (z : ℤ). z ∷ store_at kinds (base + 1) f) (ap f (omega arith) ∙ h 0 (omega arith))
    ∙ ap (λ (zs : List ℤ). value ∷ zs) (store_at-same kinds (base + 1) values f (omega arith) (λ i lt. ap f (omega arith) ∙ h (suc i) (omega arith)))

-- numbers among which arguments stand give them back
pub args_from-same : (param : ℕ) (args : List ℤ) (f : ℕ → ℤ) → ((i : ℕ) → i < length args → f (32 + (param + i)) ≡ get_or args i (pos 0)) → args_from param (length args) f ≡ args
args_from-same param [] f h = refl
args_from-same param (arg ∷ args) f h =
    ap (λ (z : ℤ). z ∷ args_from (param + 1) (length args) f) (ap f (omega arith) ∙ h 0 (omega arith))
    ∙ ap (λ (zs : List ℤ). arg ∷ zs) (args_from-same (param + 1) args f (λ i lt. ap f (omega arith) ∙ h (suc i) (omega arith)))

-- ---- numbers with a store in its place

module _ (base : ℕ) (store : List CellValue) (f : ℕ → ℤ) where
  -- the variable is that of a cell of the store
  abbrev Stands : ℕ → Type 0
  Stands v = (base ≤ v) × (v < base + length store)

  placed-cases : (v : ℕ) (P : ℤ → Type 0) → (Stands v → P (number_in store (v - base))) → (¬ Stands v → P (f v)) → P (placed base store f v)
  placed-cases v P inside outside = cond_both (nat_lt v base) (f v) _ P (λ e. outside (λ h. before e h))
      (λ e. cond_both (nat_lt v (base + length store)) _ (f v) P (λ k. inside (ltb-false v base e, ltb-true v (base + length store) k)) (λ k. outside (λ h. behind k h)))
    where
      before : nat_lt v base ≡ true → ¬ Stands v
      before e h = omega (arith, ltb-true v base e, h.0)

      behind : nat_lt v (base + length store) ≡ false → ¬ Stands v
      behind k h = omega (arith, ltb-false v (base + length store) k, h.1)

  pub placed-out : (v : ℕ) → ¬ Stands v → placed base store f v ≡ f v
  placed-out v other = placed-cases v (λ z. z ≡ f v) (λ h. absurd (other h)) (λ _. refl)

  pub placed-in : (i : ℕ) → i < length store → placed base store f (base + i) ≡ number_in store i
  placed-in i lt = placed-cases (base + i) (λ z. z ≡ number_in store i) (λ _. ap (number_in store) (omega arith)) (λ out. absurd (out (omega arith, omega arith)))

-- ---- behind a way

-- the slots of the queries on the way
abbrev pub slots_of : Way → List ℕ
slots_of [] = []
slots_of (Asks guard slot ∷ way) = slot ∷ slots_of way
slots_of (Puts parts ∷ way) = slots_of way
slots_of (Frees ∷ way) = slots_of way
slots_of (Tests test side ∷ way) = slots_of way

abbrev pub seen : List CellKind → ℕ → Way → (ℕ → ℤ) → ℕ → ℤ
seen kinds params [] f = number_of_args (args_at params f)
seen kinds params (Asks guard slot ∷ way) f = with_query slot (store_at kinds (query_variable slot 0) f) (seen kinds params way f)
seen kinds params (Puts parts ∷ way) f = seen kinds params way f
seen kinds params (Frees ∷ way) f = seen kinds params way f
seen kinds params (Tests test side ∷ way) f = seen kinds params way f

-- the variables that a body may use there
abbrev pub ranges_of : List CellKind → ℕ → Way → List (ℕ × ℕ)
ranges_of kinds params way = body_variables kinds params (slots_of way)

module _ (kinds : List CellKind) (params : ℕ) (f : ℕ → ℤ) where
  pub start-same : (v : ℕ) → 32 ≤ v → v < 32 + params → number_of_args (args_at params f) v ≡ f v
  start-same v low high = number_of_args-at (args_at params f) v low ∙ args_from-at 0 params f (v - 32) (omega arith) ∙ ap f (omega arith)

  query-same : (slot v : ℕ) (g : ℕ → ℤ) → (¬ Stands (query_variable slot 0) (store_at kinds (query_variable slot 0) f) f v → g v ≡ f v) → with_query slot (store_at kinds (query_variable slot 0) f) g v ≡ f v
  query-same slot v g other = placed-cases (query_variable slot 0) (store_at kinds (query_variable slot 0) f) g v (λ z. z ≡ f v) inside other
    where
      inside : Stands (query_variable slot 0) (store_at kinds (query_variable slot 0) f) g v → number_in (store_at kinds (query_variable slot 0) f) (v - query_variable slot 0) ≡ f v
      inside h = store_at-at kinds (query_variable slot 0) f (v - query_variable slot 0) (omega (arith, h.0, h.1, length-store_at kinds (query_variable slot 0) f)) ∙ ap f (omega (arith, h.0))

  -- where a body may look, it sees what the numbers are
  pub seen-same : (way : Way) → AgreeOn (ranges_of kinds params way) (seen kinds params way f) f
  seen-same [] v (inl h) = start-same v h.0 h.1
  seen-same [] v (inr h) = absurd h
  seen-same (Asks guard slot ∷ way) v (inl h) = query-same slot v (seen kinds params way f) (λ _. seen-same way v (inl h))
  seen-same (Asks guard slot ∷ way) v (inr (inl h)) = query-same slot v (seen kinds params way f) (λ out. absurd (out (h.0, omega (arith, h.1, length-store_at kinds (query_variable slot 0) f))))
  seen-same (Asks guard slot ∷ way) v (inr (inr h)) = query-same slot v (seen kinds params way f) (λ _. seen-same way v (inr h))
  seen-same (Puts parts ∷ way) v h = seen-same way v h
  seen-same (Frees ∷ way) v h = seen-same way v h
  seen-same (Tests test side ∷ way) v h = seen-same way v h

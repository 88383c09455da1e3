-- Linear terms as plain data, with whole numbers of any size, and their one normal form.
use Rattle.std.specs.Prelude.{ℕ, zero, suc, ◌+◌, ◌≤◌, Bool, true, false, ◌==◌, nat_lt, if◌then◌else◌, List, [], ◌∷◌, ◌++◌, ℤ, pos, negsuc, ◌+ℤ◌, ◌*ℤ◌, ◌≢◌}
use Rattle.carol_formula.specs.Bounds.{IsBelow, term_limit}

-- products, each as its variable and its coefficient, and a constant
pub record Linear : Type 0 where
  pub pairs : List (ℕ × ℤ)
  pub rest : ℤ

-- ---- normal form

-- the variables ascend, and none is below `low`
abbrev pub AscendsFrom : ℕ → List (ℕ × ℤ) → Type 0
AscendsFrom low [] = Unit {0}
AscendsFrom low (p ∷ ps) = (low ≤ p.0) × AscendsFrom (p.0 + 1) ps

-- no coefficient is zero
abbrev pub NoneZero : List (ℕ × ℤ) → Type 0
NoneZero [] = Unit {0}
NoneZero (p ∷ ps) = (p.1 ≢ pos 0) × NoneZero ps

-- each coefficient is below the limit
abbrev pub AllBelow : ℕ → List (ℕ × ℤ) → Type 0
AllBelow limit [] = Unit {0}
AllBelow limit (p ∷ ps) = IsBelow limit p.1 × AllBelow limit ps

-- the one form of a term in which it is compared and kept
pub record IsNormal (t : Linear) : Type 0 where
  pub ascends : AscendsFrom 0 t.pairs
  pub none_zero : NoneZero t.pairs

-- each coefficient and the constant are below the limit
pub record IsWithin (limit : ℕ) (t : Linear) : Type 0 where
  pub coefficients : AllBelow limit t.pairs
  pub constant : IsBelow limit t.rest

-- what a term of the code is: normal and below 2 ^ 100
pub record IsTerm (t : Linear) : Type 0 where
  pub normal : IsNormal t
  pub within : IsWithin term_limit t

-- ---- any list of products in normal form

-- zero as a test that computes
abbrev pub is_zero : ℤ → Bool
is_zero (pos zero) = true
is_zero (pos (suc n)) = false
is_zero (negsuc n) = false

-- a product before others, left out where its coefficient is zero
abbrev pub kept : ℕ → ℤ → List (ℕ × ℤ) → List (ℕ × ℤ)
kept v c ps = if is_zero c then ps else ((v, c) ∷ ps)

-- one product more in an ascending list
abbrev pub with_product : ℕ → ℤ → List (ℕ × ℤ) → List (ℕ × ℤ)
with_product v c [] = kept v c []
with_product v c (p ∷ ps) = if nat_lt v p.0 then kept v c (p ∷ ps) else if v == p.0 then kept v (c +ℤ p.1) ps else (p ∷ with_product v c ps)

abbrev pub normal_of : List (ℕ × ℤ) → List (ℕ × ℤ)
normal_of [] = []
normal_of (p ∷ ps) = with_product p.0 p.1 (normal_of ps)

-- ---- arithmetic

-- each coefficient multiplied
abbrev pub times : ℤ → List (ℕ × ℤ) → List (ℕ × ℤ)
times k [] = []
times k (p ∷ ps) = (p.0, k *ℤ p.1) ∷ times k ps

abbrev pub constant_of : ℤ → Linear
constant_of k = record { pairs = []; rest = k }

abbrev pub variable_of : ℕ → Linear
variable_of v = record { pairs = (v, pos 1) ∷ []; rest = pos 0 }

-- s and k times t
abbrev pub plus_of : Linear → ℤ → Linear → Linear
plus_of s k t = record { pairs = normal_of (s.pairs ++ times k t.pairs); rest = s.rest +ℤ (k *ℤ t.rest) }

abbrev pub sum_of : Linear → Linear → Linear
sum_of s t = record { pairs = normal_of (s.pairs ++ t.pairs); rest = s.rest +ℤ t.rest }

abbrev pub scaled : ℤ → Linear → Linear
scaled k t = record { pairs = normal_of (times k t.pairs); rest = k *ℤ t.rest }

abbrev pub difference_of : Linear → Linear → Linear
difference_of s t = sum_of s (scaled (negsuc 0) t)

-- ---- substitution

-- the sum of the coefficients of a variable
abbrev pub coefficient_of : ℕ → List (ℕ × ℤ) → ℤ
coefficient_of v [] = pos 0
coefficient_of v (p ∷ ps) = (if v == p.0 then p.1 else pos 0) +ℤ coefficient_of v ps

-- the products of the other variables
abbrev pub without : ℕ → List (ℕ × ℤ) → List (ℕ × ℤ)
without v [] = []
without v (p ∷ ps) = if v == p.0 then without v ps else (p ∷ without v ps)

abbrev pub without_of : ℕ → Linear → Linear
without_of v t = record { pairs = without v t.pairs; rest = t.rest }

-- the term with `by` in place of the variable
abbrev pub replaced : ℕ → Linear → Linear → Linear
replaced v by t = sum_of (without_of v t) (scaled (coefficient_of v t.pairs) by)

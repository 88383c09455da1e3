-- Terms and formulas in which each variable is replaced by a term, all at once: what a variable's
-- term names is not replaced again.
use Rattle.std.specs.Prelude.{ℕ, ◌+◌, ◌*◌, ◌<◌, List, [], ◌∷◌, ℤ, unsigned_abs}
use Rattle.carol_formula.specs.Bounds.{term_limit}
use Rattle.carol_formula.specs.Claim.{Claim, True, False, Le, Eq, Ne, And, Or, Not, EachTerm}
use Rattle.carol_formula.specs.Linear.{Linear, constant_of, sum_of, scaled}
use Rattle.carol_formula.specs.Value.{value_at}
use Rattle.carol_formula.specs.Weight.{weight}

-- a sum and the products, each with the term of its variable
abbrev pub named_sum : (ℕ → Linear) → List (ℕ × ℤ) → Linear → Linear
named_sum name [] sum = sum
named_sum name (p ∷ ps) sum = named_sum name ps (sum_of sum (scaled p.1 (name p.0)))

-- the term with the term of each variable in its place
abbrev pub named_term : (ℕ → Linear) → Linear → Linear
named_term name t = named_sum name t.pairs (constant_of t.rest)

-- the formula with the term of each variable in its place
abbrev pub named_claim : (ℕ → Linear) → Claim → Claim
named_claim name True = True
named_claim name False = False
named_claim name (Le t) = Le (named_term name t)
named_claim name (Eq t) = Eq (named_term name t)
named_claim name (Ne t) = Ne (named_term name t)
named_claim name (And a b) = And (named_claim name a) (named_claim name b)
named_claim name (Or a b) = Or (named_claim name a) (named_claim name b)
named_claim name (Not a) = Not (named_claim name a)

-- the numbers that the variables' terms have
abbrev pub through : (ℕ → Linear) → (ℕ → ℤ) → ℕ → ℤ
through name at v = value_at (name v) at

-- ---- what the terms of variables can add up to

-- the most that the products weigh
abbrev pub named_mass : (ℕ → Linear) → List (ℕ × ℤ) → ℕ
named_mass name [] = 0
named_mass name (p ∷ ps) = (unsigned_abs p.1 * weight (name p.0)) + named_mass name ps

-- the most that the term weighs
abbrev pub named_weight : (ℕ → Linear) → Linear → ℕ
named_weight name t = named_mass name t.pairs + unsigned_abs t.rest

-- the variable of each product has a term
abbrev pub AllNamed : (ℕ → Type 0) → List (ℕ × ℤ) → Type 0
AllNamed can [] = Unit {0}
AllNamed can (p ∷ ps) = can p.0 × AllNamed can ps

-- each variable has a term, and the sum of all is light enough for a term
pub record IsNameable (can : ℕ → Type 0) (name : ℕ → Linear) (t : Linear) : Type 0 where
  pub named : AllNamed can t.pairs
  pub light : named_weight name t < term_limit

-- so it is with each term of the formula
abbrev pub IsNameableClaim : (ℕ → Type 0) → (ℕ → Linear) → Claim → Type 0
IsNameableClaim can name c = EachTerm (IsNameable can name) c

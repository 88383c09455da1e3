-- Formulas as plain data, and when they are true.
use Rattle.std.specs.Prelude.{ℕ, zero, suc, ◌+◌, ◌*◌, Bool, true, false, not, ◌&&◌, ◌||◌, if◌then◌else◌, ℤ, pos, negsuc}
use Rattle.carol_formula.specs.Linear.{Linear, IsWithin, is_zero, constant_of, difference_of, replaced}
use Rattle.carol_formula.specs.Value.{value_at, Fits}

-- `Le`, `Eq` and `Ne` compare their term with 0
pub data Claim : Type 0 where
  True : Claim
  False : Claim
  Le : Linear → Claim
  Eq : Linear → Claim
  Ne : Linear → Claim
  And : Claim → Claim → Claim
  Or : Claim → Claim → Claim
  Not : Claim → Claim

-- z is at most 0
abbrev pub is_at_most_zero : ℤ → Bool
is_at_most_zero (pos zero) = true
is_at_most_zero (pos (suc n)) = false
is_at_most_zero (negsuc n) = true

abbrev pub truth : Claim → (ℕ → ℤ) → Bool
truth True f = true
truth False f = false
truth (Le t) f = is_at_most_zero (value_at t f)
truth (Eq t) f = is_zero (value_at t f)
truth (Ne t) f = not (is_zero (value_at t f))
truth (And a b) f = truth a f && truth b f
truth (Or a b) f = truth a f || truth b f
truth (Not a) f = not (truth a f)

-- each term of the formula has the property
abbrev pub EachTerm : (Linear → Type 0) → Claim → Type 0
EachTerm P True = Unit {0}
EachTerm P False = Unit {0}
EachTerm P (Le t) = P t
EachTerm P (Eq t) = P t
EachTerm P (Ne t) = P t
EachTerm P (And a b) = EachTerm P a × EachTerm P b
EachTerm P (Or a b) = EachTerm P a × EachTerm P b
EachTerm P (Not a) = EachTerm P a

-- each term can be added up at f
abbrev pub ClaimFits : Claim → (ℕ → ℤ) → Type 0
ClaimFits c f = EachTerm (λ t. Fits t f) c

-- each coefficient and constant is below the limit
abbrev pub ClaimWithin : ℕ → Claim → Type 0
ClaimWithin limit c = EachTerm (IsWithin limit) c

-- the formula has no `Not`
abbrev pub HasNoNot : Claim → Type 0
HasNoNot True = Unit {0}
HasNoNot False = Unit {0}
HasNoNot (Le t) = Unit {0}
HasNoNot (Eq t) = Unit {0}
HasNoNot (Ne t) = Unit {0}
HasNoNot (And a b) = HasNoNot a × HasNoNot b
HasNoNot (Or a b) = HasNoNot a × HasNoNot b
HasNoNot (Not a) = ⊥

-- the formula with a term in place of a variable
abbrev pub with_term : ℕ → Linear → Claim → Claim
with_term v by True = True
with_term v by False = False
with_term v by (Le t) = Le (replaced v by t)
with_term v by (Eq t) = Eq (replaced v by t)
with_term v by (Ne t) = Ne (replaced v by t)
with_term v by (And a b) = And (with_term v by a) (with_term v by b)
with_term v by (Or a b) = Or (with_term v by a) (with_term v by b)
with_term v by (Not a) = Not (with_term v by a)

-- the formula, or its denial where the flag is false, without `Not`: `t <= 0` is denied by
-- `1 - t <= 0`
abbrev pub without_not : Bool → Claim → Claim
without_not flag True = if flag then True else False
without_not flag False = if flag then False else True
without_not flag (Le t) = if flag then Le t else Le (difference_of (constant_of (pos 1)) t)
without_not flag (Eq t) = if flag then Eq t else Ne t
without_not flag (Ne t) = if flag then Ne t else Eq t
without_not flag (And a b) = if flag then And (without_not flag a) (without_not flag b) else Or (without_not flag a) (without_not flag b)
without_not flag (Or a b) = if not flag then And (without_not flag a) (without_not flag b) else Or (without_not flag a) (without_not flag b)
without_not flag (Not a) = without_not (not flag) a

-- the cases into which the formula splits: of an `And` each case of the one part with each of the
-- other
abbrev pub cases_of : Claim → ℕ
cases_of True = 1
cases_of False = 1
cases_of (Le t) = 1
cases_of (Eq t) = 1
cases_of (Ne t) = 2
cases_of (And a b) = cases_of a * cases_of b
cases_of (Or a b) = cases_of a + cases_of b
cases_of (Not a) = 1

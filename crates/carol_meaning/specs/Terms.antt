-- What terms and formulas are worth, and what is wrong with them, over any way to look a value up.
use Rattle.std.specs.Prelude.{ℕ, Bool, true, ◌&&◌, nat_le, if◌then◌else◌, List, [], ◌∷◌, ◌++◌, ℤ, pos, neg_ℤ, unsigned_abs, Option, Some, None}
use Rattle.std.specs.List.{flat_map}
use Rattle.carol_formula.specs.Linear.{Linear, constant_of, sum_of, scaled, difference_of}
use Rattle.carol_formula.specs.Claim as claim
use Rattle.carol_formula.specs.Claim.{Claim}
use Rattle.carol_syntax.specs.declared.places.Span.{Span}
use Rattle.carol_syntax.specs.declared.formulas.ValueDecl.{ValueDecl}
use Rattle.carol_syntax.specs.declared.formulas.ProductDecl.{ProductDecl}
use Rattle.carol_syntax.specs.declared.formulas.TermDecl.{TermDecl}
use Rattle.carol_syntax.specs.declared.formulas.Sign.{Sign}
use Rattle.carol_syntax.specs.declared.formulas.Sign.TheVariants.{AtMost, Below, AtLeast, Above, Same, Differs}
use Rattle.carol_syntax.specs.Formulas.{FormulaTree, True, False, Not, And, Or, Compare}
use Rattle.carol_program.specs.Limits.{largest_coefficient, largest_constant}
use Rattle.carol_meaning.specs.declared.fault.NameKind.TheVariants.{TooWide}
use Rattle.carol_meaning.specs.declared.fault.Fault.{Fault}
use Rattle.carol_meaning.specs.Faults.{fault_at}

-- what a value is: a term, nothing since the fault is elsewhere, or a fault
pub data Found : Type 0 where
  Worth : (term : Linear) → Found
  Nothing : Found
  Wrong : (fault : Fault) → Found

-- a way to look values up
pub record Look : Type 0 where
  pub value : ValueDecl → Found

-- ---- terms

abbrev pub worth_of : Found → Option Linear
worth_of (Worth t) = Some t
worth_of Nothing = None
worth_of (Wrong f) = None

-- a factor with its sign, 1 where there is none
abbrev pub signed_factor : Bool → Option ℕ → ℤ
signed_factor minus None = if minus then neg_ℤ (pos 1) else pos 1
signed_factor minus (Some k) = if minus then neg_ℤ (pos k) else pos k

abbrev pub multiplied : ℤ → Option Linear → Option Linear
multiplied k None = None
multiplied k (Some t) = Some (scaled k t)

abbrev pub product_of : Look → ℤ → Option ValueDecl → Option Linear
product_of look k None = Some (constant_of k)
product_of look k (Some v) = multiplied k (worth_of (look.value v))

abbrev pub product_worth : Look → ProductDecl → Option Linear
product_worth look p = product_of look (signed_factor p.minus p.factor) p.value

-- the sum, where both are worth something
abbrev pub added : Option Linear → Option Linear → Option Linear
added None t = None
added (Some s) None = None
added (Some s) (Some t) = Some (sum_of s t)

-- the products added to a sum, one after the other
abbrev pub sum_after : Look → Option Linear → List ProductDecl → Option Linear
sum_after look sum [] = sum
sum_after look sum (p ∷ ps) = sum_after look (added sum (product_worth look p)) ps

-- what a term is worth, in normal form; none where a value is worth none
abbrev pub term_worth : Look → TermDecl → Option Linear
term_worth look t = sum_after look (Some (constant_of (pos 0))) t.products

abbrev pub found_faults : Found → List Fault
found_faults (Worth t) = []
found_faults Nothing = []
found_faults (Wrong f) = f ∷ []

abbrev pub value_faults : Look → Option ValueDecl → List Fault
value_faults look None = []
value_faults look (Some v) = found_faults (look.value v)

abbrev pub product_faults : Look → ProductDecl → List Fault
product_faults look p = value_faults look p.value

-- the faults of a term's values
abbrev pub values_faults : Look → TermDecl → List Fault
values_faults look t = flat_map (product_faults look) t.products

-- ---- width

abbrev pub are_small : List (ℕ × ℤ) → Bool
are_small [] = true
are_small (p ∷ ps) = nat_le (unsigned_abs p.1) largest_coefficient && are_small ps

-- no coefficient and no constant is too large
abbrev pub is_small : Linear → Bool
is_small t = are_small t.pairs && nat_le (unsigned_abs t.rest) largest_constant

-- a fault at the place, unless the term is small; one that is worth nothing has no width
abbrev pub width_faults : Span → Option Linear → List Fault
width_faults span None = []
width_faults span (Some t) = if is_small t then [] else (fault_at TooWide span [] ∷ [])

-- the faults of a term by itself
abbrev pub term_faults : Look → TermDecl → List Fault
term_faults look t = values_faults look t ++ width_faults t.span (term_worth look t)

-- a term of a place that wants one, 0 where it is worth nothing
abbrev pub or_zero : Option Linear → Linear
or_zero None = constant_of (pos 0)
or_zero (Some t) = t

abbrev pub term_meaning : Look → TermDecl → Linear
term_meaning look t = or_zero (term_worth look t)

-- ---- comparisons

-- the term that a comparison of two terms compares with 0
abbrev pub compared : Sign → Linear → Linear → Linear
compared AtMost s t = difference_of s t
compared Below s t = sum_of (difference_of s t) (constant_of (pos 1))
compared AtLeast s t = difference_of t s
compared Above s t = sum_of (difference_of t s) (constant_of (pos 1))
compared Same s t = difference_of s t
compared Differs s t = difference_of s t

-- the same, where both are worth something
abbrev pub comparison_worth : Sign → Option Linear → Option Linear → Option Linear
comparison_worth sign None t = None
comparison_worth sign (Some s) None = None
comparison_worth sign (Some s) (Some t) = Some (compared sign s t)

-- how the term is compared
abbrev pub as_claim : Sign → Linear → Claim
as_claim Same t = claim.Eq t
as_claim Differs t = claim.Ne t
as_claim sign t = claim.Le t

-- a comparison that is worth nothing is False
abbrev pub claim_or_false : Sign → Option Linear → Claim
claim_or_false sign None = claim.False
claim_or_false sign (Some t) = as_claim sign t

-- ---- formulas

abbrev pub formula_meaning : Look → FormulaTree → Claim
formula_meaning look True = claim.True
formula_meaning look False = claim.False
formula_meaning look (Not f) = claim.Not (formula_meaning look f)
formula_meaning look (And f g) = claim.And (formula_meaning look f) (formula_meaning look g)
formula_meaning look (Or f g) = claim.Or (formula_meaning look f) (formula_meaning look g)
formula_meaning look (Compare left sign right) = claim_or_false sign (comparison_worth sign (term_worth look left) (term_worth look right))

-- a comparison is too wide at the first token of its left term
abbrev pub formula_faults : Look → FormulaTree → List Fault
formula_faults look True = []
formula_faults look False = []
formula_faults look (Not f) = formula_faults look f
formula_faults look (And f g) = formula_faults look f ++ formula_faults look g
formula_faults look (Or f g) = formula_faults look f ++ formula_faults look g
formula_faults look (Compare left sign right) =
    values_faults look left ++
    (values_faults look right ++ width_faults left.span (comparison_worth sign (term_worth look left) (term_worth look right)))

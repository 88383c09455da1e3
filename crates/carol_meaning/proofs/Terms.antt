-- Terms and formulas without faults, over any way to look a value up.
use Rattle.std.proofs.Common.{◌≡◌, ℕ, ◌+◌, ◌≤◌, true, List, [], ◌∷◌, arith, subst, sym}
use Rattle.std.specs.Prelude.{ℤ, pos, negsuc, neg_ℤ, ◌*ℤ◌, unsigned_abs, nat_le, Option, Some, None, IfSome}
use Rattle.std.specs.Cmp.{first_so, second_so}
use Rattle.std.proofs.lemmas.Bool.{leb-true}
use Rattle.std.proofs.lemmas.Int.{ints, unsigned_abs-mul}
use Rattle.carol_formula.specs.Linear.{Linear, IsNormal, AscendsFrom, NoneZero, times, constant_of, scaled, difference_of}
use Rattle.carol_formula.specs.Claim.{EachTerm}
use Rattle.carol_formula.proofs.Integers.{minus_one-mul}
use Rattle.carol_formula.proofs.Products.{normal_of-normal}
use Rattle.carol_syntax.specs.declared.places.Span.{Span}
use Rattle.carol_syntax.specs.declared.formulas.ValueDecl.{ValueDecl}
use Rattle.carol_syntax.specs.declared.formulas.ProductDecl.{ProductDecl}
use Rattle.carol_syntax.specs.declared.formulas.TermDecl.{TermDecl}
use Rattle.carol_syntax.specs.declared.formulas.Sign.{Sign}
use Rattle.carol_syntax.specs.declared.formulas.Sign.TheVariants.{Below, AtLeast, Above, Same}
use Rattle.carol_syntax.specs.Formulas.{FormulaTree, True, False, Not, And, Or, Compare}
use Rattle.carol_syntax.specs.Size.{node_count}
use Rattle.carol_meaning.specs.Sizes.{IsShortFormula}
use Rattle.carol_program.specs.Limits.{largest_coefficient, largest_constant}
use Rattle.carol_program.specs.Variables.{AreAmong}
use Rattle.carol_program.specs.WellFormed.{AreSmall, IsSmall, IsTermOver, IsFormulaOver}
use Rattle.carol_formula.specs.Size.{nodes_of}
use Rattle.carol_meaning.specs.Faults.{fault_at}
use Rattle.carol_meaning.specs.declared.fault.NameKind.TheVariants.{TooWide}
use Rattle.carol_meaning.specs.Terms.{Look, Found, Worth, Nothing, Wrong, worth_of, multiplied, product_of, signed_factor, product_worth, added, sum_after, term_worth, are_small, is_small, width_faults, term_faults, or_zero, term_meaning, compared, comparison_worth, claim_or_false, formula_meaning, formula_faults}
use Rattle.carol_meaning.proofs.Lists.{no_part, passed-test}
use Rattle.carol_meaning.proofs.Among.{AreNarrow, IsTermIn, sum-in, scaled-in, difference-in, short}

-- what a value is has its variables in the ranges, if it is worth something
abbrev pub IsFoundIn : List (ℕ × ℕ) → Found → Type 0
IsFoundIn ranges (Worth t) = AreAmong ranges t.pairs
IsFoundIn ranges Nothing = Unit {0}
IsFoundIn ranges (Wrong f) = Unit {0}

abbrev pub LooksIn : List (ℕ × ℕ) → Look → Type 0
LooksIn ranges look = (v : ValueDecl) → IsFoundIn ranges (look.value v)

-- ---- width

small-pairs : (ps : List (ℕ × ℤ)) → are_small ps ≡ true → AreSmall ps
small-pairs [] h = tt
small-pairs (p ∷ ps) h = (
  leb-true (unsigned_abs p.1) largest_coefficient (first_so (nat_le (unsigned_abs p.1) largest_coefficient) (are_small ps) h),
  small-pairs ps (second_so (nat_le (unsigned_abs p.1) largest_coefficient) (are_small ps) h),
)

small-term : (t : Linear) → is_small t ≡ true → IsSmall t
small-term t h = (
  small-pairs t.pairs (first_so (are_small t.pairs) (nat_le (unsigned_abs t.rest) largest_constant) h),
  leb-true (unsigned_abs t.rest) largest_constant (second_so (are_small t.pairs) (nat_le (unsigned_abs t.rest) largest_constant) h),
)

small-worth : (span : Span) (t : Option Linear) → width_faults span t ≡ [] → IfSome t IsSmall
small-worth span None h = tt
small-worth span (Some t) h = small-term t (passed-test (is_small t) (fault_at TooWide span []) [] h)

or_zero-small : (t : Option Linear) → IfSome t IsSmall → IsSmall (or_zero t)
or_zero-small None h = (tt, omega arith)
or_zero-small (Some t) h = h

pub meaning-small : (look : Look) (t : TermDecl) → term_faults look t ≡ [] → IsSmall (term_meaning look t)
meaning-small look t h = or_zero-small (term_worth look t) (small-worth t.span (term_worth look t) (search no_part))

-- ---- a term negated

abs-negated : (z : ℤ) → unsigned_abs (negsuc 0 *ℤ z) ≡ unsigned_abs z
abs-negated z = omega (arith, unsigned_abs-mul (negsuc 0) z)

negated-ascends : (low : ℕ) (ps : List (ℕ × ℤ)) → AscendsFrom low ps → AscendsFrom low (times (negsuc 0) ps)
negated-ascends low [] h = tt
negated-ascends low (p ∷ ps) h = (h.0, negated-ascends (p.0 + 1) ps h.1)

negated-none_zero : (ps : List (ℕ × ℤ)) → NoneZero ps → NoneZero (times (negsuc 0) ps)
negated-none_zero [] h = tt
negated-none_zero (p ∷ ps) h = (λ e. h.0 (omega (arith, ints, minus_one-mul p.1, e)), negated-none_zero ps h.1)

negated-pairs : (ps : List (ℕ × ℤ)) → AreSmall ps → AreSmall (times (negsuc 0) ps)
negated-pairs [] h = tt
negated-pairs (p ∷ ps) h = (omega (arith, abs-negated p.1, h.0), negated-pairs ps h.1)

-- a term in normal form is as small as its negation
negated-small : (t : Linear) → IsNormal t → IsSmall t → IsSmall (scaled (negsuc 0) t)
negated-small t normal small =
    let same = normal_of-normal (times (negsuc 0) t.pairs) (negated-ascends 0 t.pairs normal.ascends) (negated-none_zero t.pairs normal.none_zero) in
    (subst AreSmall (sym same) (negated-pairs t.pairs small.0), omega (arith, abs-negated t.rest, small.1))

-- ---- nodes

claim-nodes : (sign : Sign) (t : Option Linear) → nodes_of (claim_or_false sign t) ≤ 1
claim-nodes sign None = omega arith
claim-nodes Same (Some t) = omega arith
claim-nodes _ (Some t) = omega arith

formula-nodes : (look : Look) (f : FormulaTree) → nodes_of (formula_meaning look f) ≤ node_count f
formula-nodes look True = omega arith
formula-nodes look False = omega arith
formula-nodes look (Not f) = omega (arith, formula-nodes look f)
formula-nodes look (And f g) = omega (arith, formula-nodes look f, formula-nodes look g)
formula-nodes look (Or f g) = omega (arith, formula-nodes look f, formula-nodes look g)
formula-nodes look (Compare left sign right) = omega (arith, claim-nodes sign (comparison_worth sign (term_worth look left) (term_worth look right)))

-- ---- terms of a comparison

claim-terms : (P : Linear → Type 0) (sign : Sign) (t : Option Linear) → IfSome t P → EachTerm P (claim_or_false sign t)
claim-terms P sign None h = tt
claim-terms P Same (Some t) h = h
claim-terms P _ (Some t) h = h

module _ (ranges : List (ℕ × ℕ)) where
  -- ---- what a term is worth

  multiplied-in : (k : ℤ) (found : Found) → IsFoundIn ranges found → IfSome (multiplied k (worth_of found)) (λ t. AreAmong ranges t.pairs)
  multiplied-in k (Worth t) h = (scaled-in ranges k t h).variables
  multiplied-in k _ h = tt

  added-in : (s t : Option Linear) → IfSome s (IsTermIn ranges) → IfSome t (λ u. AreAmong ranges u.pairs) → IfSome (added s t) (IsTermIn ranges)
  added-in None t h k = tt
  added-in (Some s) None h k = tt
  added-in (Some s) (Some t) h k = sum-in ranges s t h.variables k

  zero-in : IsTermIn ranges (constant_of (pos 0))
  zero-in = record { variables = tt; normal = record { ascends = tt; none_zero = tt } }

  or_zero-in : (t : Option Linear) → IfSome t (IsTermIn ranges) → IsTermIn ranges (or_zero t)
  or_zero-in None h = zero-in
  or_zero-in (Some t) h = h

  compared-in : (sign : Sign) (s t : Linear) → AreAmong ranges s.pairs → AreAmong ranges t.pairs → IsTermIn ranges (compared sign s t)
  compared-in Below s t h k = sum-in ranges (difference_of s t) (constant_of (pos 1)) (difference-in ranges s t h k).variables tt
  compared-in Above s t h k = sum-in ranges (difference_of t s) (constant_of (pos 1)) (difference-in ranges t s k h).variables tt
  compared-in AtLeast s t h k = difference-in ranges t s k h
  compared-in _ s t h k = difference-in ranges s t h k

  comparison-in : (sign : Sign) (s t : Option Linear) → IfSome s (IsTermIn ranges) → IfSome t (IsTermIn ranges) → IfSome (comparison_worth sign s t) (IsTermIn ranges)
  comparison-in sign None t h k = tt
  comparison-in sign (Some s) None h k = tt
  comparison-in sign (Some s) (Some t) h k = compared-in sign s t h.variables k.variables

  module _ (look : Look) (looks : LooksIn ranges look) where
    product-in : (k : ℤ) (value : Option ValueDecl) → IfSome (product_of look k value) (λ t. AreAmong ranges t.pairs)
    product-in k None = tt
    product-in k (Some v) = multiplied-in k (look.value v) (looks v)

    sum_after-in : (ps : List ProductDecl) (sum : Option Linear) → IfSome sum (IsTermIn ranges) → IfSome (sum_after look sum ps) (IsTermIn ranges)
    sum_after-in [] sum h = h
    sum_after-in (p ∷ ps) sum h = sum_after-in ps (added sum (product_worth look p)) (added-in sum (product_worth look p) h (product-in (signed_factor p.minus p.factor) p.value))

    pub worth-in : (t : TermDecl) → IfSome (term_worth look t) (IsTermIn ranges)
    worth-in t = sum_after-in t.products (Some (constant_of (pos 0))) zero-in

    meaning-in : (t : TermDecl) → IsTermIn ranges (term_meaning look t)
    meaning-in t = or_zero-in (term_worth look t) (worth-in t)

  -- ---- without faults

  module _ (narrow : AreNarrow ranges) where
    term-over : (t : Linear) → IsTermIn ranges t → IsSmall t → IsTermOver ranges t
    term-over t h small = record { variables = h.variables; small = small; short = short ranges t narrow h }

    some-over : (t : Option Linear) → IfSome t (IsTermIn ranges) → IfSome t IsSmall → IfSome t (IsTermOver ranges)
    some-over None h k = tt
    some-over (Some t) h k = term-over t h k

    module _ (look : Look) (looks : LooksIn ranges look) where
      pub meaning-over : (t : TermDecl) → term_faults look t ≡ [] → IsTermOver ranges (term_meaning look t)
      meaning-over t h = term-over (term_meaning look t) (meaning-in look looks t) (meaning-small look t h)

      -- what is taken away
      pub negated-over : (t : TermDecl) → term_faults look t ≡ [] → IsTermOver ranges (scaled (neg_ℤ (pos 1)) (term_meaning look t))
      negated-over t h =
          let inside = meaning-in look looks t in
          term-over (scaled (negsuc 0) (term_meaning look t)) (scaled-in ranges (negsuc 0) (term_meaning look t) inside.variables) (negated-small (term_meaning look t) inside.normal (meaning-small look t h))

      comparison-over : (left : TermDecl) (sign : Sign) (right : TermDecl) → width_faults left.span (comparison_worth sign (term_worth look left) (term_worth look right)) ≡ [] → IfSome (comparison_worth sign (term_worth look left) (term_worth look right)) (IsTermOver ranges)
      comparison-over left sign right h = some-over (comparison_worth sign (term_worth look left) (term_worth look right))
          (comparison-in sign (term_worth look left) (term_worth look right) (worth-in look looks left) (worth-in look looks right))
          (small-worth left.span (comparison_worth sign (term_worth look left) (term_worth look right)) h)

      formula-terms : (f : FormulaTree) → formula_faults look f ≡ [] → EachTerm (IsTermOver ranges) (formula_meaning look f)
      formula-terms True h = tt
      formula-terms False h = tt
      formula-terms (Not f) h = formula-terms f h
      formula-terms (And f g) h = (formula-terms f (search no_part), formula-terms g (search no_part))
      formula-terms (Or f g) h = (formula-terms f (search no_part), formula-terms g (search no_part))
      formula-terms (Compare left sign right) h = claim-terms (IsTermOver ranges) sign (comparison_worth sign (term_worth look left) (term_worth look right)) (comparison-over left sign right (search no_part))

      pub formula-over : (f : FormulaTree) → IsShortFormula f → formula_faults look f ≡ [] → IsFormulaOver ranges (formula_meaning look f)
      formula-over f sized h = record { terms = formula-terms f h; few = omega (arith, sized.0, formula-nodes look f) }

-- Sums of distinct variables, and bounds on what values are.
use Rattle.std.proofs.Common.{◌≡◌, ℕ, zero, suc, ◌+◌, ◌≤◌, ◌∷◌, ◌++◌, Option, None, ap, ◌∙◌, arith}
use Rattle.std.specs.Prelude.{IfSome, pos}
use Rattle.std.proofs.lemmas.Int.{ints}
use Rattle.carol_formula.specs.Linear.{Linear, AscendsFrom, NoneZero, IsNormal, normal_of, sum_of}
use Rattle.carol_formula.proofs.Products.{normal_of-normal}
use Rattle.carol_syntax.specs.declared.formulas.ValueDecl.{ValueDecl}
use Rattle.carol_meaning.specs.declared.named.Named.{Named}
use Rattle.carol_meaning.specs.declared.named.Named.TheVariants.{Cell, Members, Missing, Misused}
use Rattle.carol_meaning.specs.Terms.{worth_of}
use Rattle.carol_meaning.specs.Stores.{ones, sum_of_variables, cell_value, set_value}
use Rattle.carol_names.specs.Bounded.{IsBounded, most_value}
use Rattle.carol_names.proofs.Bounds.{AtMost, normal-bounded, bounded-more}

-- ---- sums of distinct variables

ones-append : (first a b : ℕ) → ones first a ++ ones (first + a) b ≡ ones first (a + b)
ones-append first zero b =
    let here : first + 0 ≡ first = omega arith in
    let more : b ≡ 0 + b = omega arith in
    ap (λ n. ones n b) here ∙ ap (λ n. ones first n) more
ones-append first (suc a) b =
    let here : first + suc a ≡ (first + 1) + a = omega arith in
    let more : suc (a + b) ≡ suc a + b = omega arith in
    ap (λ n. (first, pos 1) ∷ (ones (first + 1) a ++ ones n b)) here ∙
    ap (λ ps. (first, pos 1) ∷ ps) (ones-append (first + 1) a b) ∙
    ap (λ n. ones first n) more

ones-ascend : (low first count : ℕ) → low ≤ first → AscendsFrom low (ones first count)
ones-ascend low first zero le = tt
ones-ascend low first (suc count) le = (le, ones-ascend (first + 1) (first + 1) count (omega arith))

ones-none_zero : (first count : ℕ) → NoneZero (ones first count)
ones-none_zero first zero = tt
ones-none_zero first (suc count) = (λ h. omega (arith, ints, h), ones-none_zero (first + 1) count)

ones-most : (first count : ℕ) → AtMost 1 (ones first count)
ones-most first zero = tt
ones-most first (suc count) = (omega arith, ones-most (first + 1) count)

sum-normal : (first count : ℕ) → IsNormal (sum_of_variables first count)
sum-normal first count = record { ascends = ones-ascend 0 first count (omega arith); none_zero = ones-none_zero first count }

-- two sums, one behind the other
sum_of-variables : (first a b : ℕ) → sum_of (sum_of_variables first a) (sum_of_variables (first + a) b) ≡ sum_of_variables first (a + b)
sum_of-variables first a b =
    ap (λ ps. record { pairs = ps; rest = pos 0 })
    (ap normal_of (ones-append first a b) ∙ normal_of-normal (ones first (a + b)) (sum-normal first (a + b)).ascends (sum-normal first (a + b)).none_zero)

-- a sum from the sums of its two parts
pub parts-whole : (first a b count : ℕ) (s t whole : Linear) → a + b ≡ count → s ≡ sum_of_variables first a → t ≡ sum_of_variables (first + a) b → whole ≡ sum_of s t → whole ≡ sum_of_variables first count
parts-whole first a b count s t whole both is_s is_t is = rw (is, is_s, is_t, ← both) (sum_of-variables first a b)

sum-bounded : (bound first count : ℕ) → 1 ≤ bound → IsBounded bound (sum_of_variables first count)
sum-bounded bound first count le =
    bounded-more 1 bound (sum_of_variables first count) le
    (normal-bounded 1 (sum_of_variables first count) (sum-normal first count) (ones-most first count) (omega arith))

pub is-sum-bounded : (bound first count : ℕ) (t : Linear) → 1 ≤ bound → t ≡ sum_of_variables first count → IsBounded bound t
is-sum-bounded bound first count t le is = rw is (sum-bounded bound first count le)

-- ---- bounds on what values are

pub cell-bounded : (base : ℕ) (v : ValueDecl) (n : Named) → IfSome (worth_of (cell_value base v n)) (IsBounded most_value)
cell-bounded base v (Cell number kind) = sum-bounded most_value (base + number) 1 (omega arith)
cell-bounded base v (Members first count) = tt
cell-bounded base v Missing = tt
cell-bounded base v Misused = tt

pub set-bounded : (base : ℕ) (v : ValueDecl) (n : Named) → IfSome (worth_of (set_value base v n)) (IsBounded most_value)
set-bounded base v (Cell number kind) = tt
set-bounded base v (Members first count) = sum-bounded most_value (base + first) count (omega arith)
set-bounded base v Missing = tt
set-bounded base v Misused = tt

-- the code's terms, where they are what a value is worth
pub cell-worth-bounded : (base : ℕ) (v : ValueDecl) (n : Named) (t : Option Linear) → t ≡ worth_of (cell_value base v n) → IfSome t (IsBounded most_value)
cell-worth-bounded base v n t is = rw is (cell-bounded base v n)

pub set-worth-bounded : (base : ℕ) (v : ValueDecl) (n : Named) (t : Option Linear) → t ≡ worth_of (set_value base v n) → IfSome t (IsBounded most_value)
set-worth-bounded base v n t is = rw is (set-bounded base v n)

pub none-bounded : (t : Option Linear) → t ≡ None → IfSome t (IsBounded most_value)
none-bounded t is = rw is tt

pub ruleset bounded = (cell-worth-bounded, set-worth-bounded, none-bounded)

-- When a token has the class of a word or a symbol.
use Rattle.std.proofs.Common.{◌≡◌, ◌≢◌, ℕ, zero, suc, ◌<◌, ◌≤◌, Bool, true, false, eqb, cond, ◌||◌, nat_le, List, [], ◌∷◌, length, inl, inr, refl, sym, ◌∙◌, ap, arith}
use Rattle.std.specs.Prelude.{◌&&◌}
use Rattle.std.proofs.lemmas.Bool.Decides.{nat_tests}
use Rattle.carol_grammar.specs.Sets.{has}
use Rattle.carol_grammar.specs.Reading.{next_in}
use Rattle.carol_syntax.specs.declared.kind.Kind.{Kind}
use Rattle.carol_syntax.specs.declared.kind.Kind.TheVariants as k
use Rattle.carol_syntax.specs.contracts.Kind.{the_type}
use Rattle.carol_syntax.specs.declared.lexeme.Lexeme.{Lexeme}
use Rattle.carol_syntax.specs.Limits.{largest}
use Rattle.carol_grammar.specs.Terminals.{class_of, number_of, numeral, class_of_zero, class_of_more, class_of_none}
use Rattle.carol_grammar.specs.Rules.{numbers, positives, digits}
use Rattle.carol_reader.specs.Reads.{is_within}
use denote.Enum.Declared.{rowss, tag_of}
use denote.Enum.Enum.{Sum, tag}
use denote.Enum.Bare.{sameb, false_same}
use denote.Struct.Field.{Field}

tag_below : (fields : List (List Field)) (a : Sum (rowss fields)) → tag (rowss fields) a < length fields
tag_below [] a = absurd a
tag_below (f ∷ fs) (inl x) = omega arith
tag_below (f ∷ fs) (inr y) = let h : tag (rowss fs) y < length fs = tag_below fs y in omega arith

few_kinds : (kind : Kind) → number_of kind < class_of_zero
unfolding number_of
few_kinds kind =
    let h : tag_of the_type kind < length the_type.parts = tag_below the_type.parts (the_type.to kind) in
    let e : nat_le (length the_type.parts) class_of_zero ≡ true = refl in
    grind (arith, nat_tests)

large_either : (b : Bool) → class_of_zero ≤ cond b class_of_more class_of_none
large_either true = omega arith
large_either false = omega arith

numeral_large : (n : ℕ) → class_of_zero ≤ numeral n
numeral_large zero = omega arith
numeral_large (suc zero) = omega arith
numeral_large (suc (suc n)) = large_either (nat_le (suc (suc n)) largest)

no_more : (b : Bool) → b ≡ (b || false)
no_more true = refl
no_more false = refl

differ : (n m : ℕ) → m < class_of_zero → eqb (numeral n) m ≡ false
differ n m h = let e : class_of_zero ≤ numeral n = numeral_large n in grind (arith, nat_tests)

class_by : (b : Bool) (a m v : ℕ) → m < class_of_zero → (b ≡ true → eqb a m ≡ false) → eqb a m ≡ has (m ∷ []) (cond b (numeral v) a)
class_by true a m v h f = f refl ∙ sym (ap (λ c. c || false) (differ v m h))
class_by false a m v h f = no_more (eqb a m)

apart_from : (a m : ℕ) → eqb m 1 ≡ false → eqb a 1 ≡ true → eqb a m ≡ false
apart_from a m e f = grind (arith, nat_tests)

-- the test of the code is the test of the class
pub class_is : (l : Lexeme) (kind : Kind) → kind ≢ k.Number → sameb the_type l.kind kind ≡ has (number_of kind ∷ []) (class_of l)
unfolding class_of number_of
class_is l kind h = class_by (eqb (tag_of the_type l.kind) 1) (tag_of the_type l.kind) (tag_of the_type kind) l.value (few_kinds kind) (apart_from (tag_of the_type l.kind) (tag_of the_type kind) (false_same the_type tt kind k.Number h))

numbers_by : (b : Bool) (a v : ℕ) → a < class_of_zero → has numbers (cond b (numeral v) a) ≡ (b && nat_le v largest)
numbers_by true a zero h = refl
numbers_by true a (suc zero) h = refl
numbers_by true a (suc (suc n)) h = large (nat_le (suc (suc n)) largest)
  where
    large : (c : Bool) → has numbers (cond c class_of_more class_of_none) ≡ c
    large true = refl
    large false = refl
numbers_by false a v h = grind (arith, nat_tests)

positive_by : (b : Bool) (a v : ℕ) → a < class_of_zero → has positives (cond b (numeral v) a) ≡ (b && (nat_le 1 v && nat_le v largest))
positive_by true a zero h = refl
positive_by true a (suc zero) h = refl
positive_by true a (suc (suc n)) h = large (nat_le (suc (suc n)) largest) (nat_le 1 (suc (suc n))) (grind (arith, nat_tests))
  where
    large : (c d : Bool) → d ≡ true → has positives (cond c class_of_more class_of_none) ≡ (d && c)
    large true true e = refl
    large false true e = refl
    large true false e = sym e
    large false false e = refl
positive_by false a v h = grind (arith, nat_tests)

digit_by : (b : Bool) (a v : ℕ) → a < class_of_zero → has digits (cond b (numeral v) a) ≡ (b && nat_le v 1)
digit_by true a zero h = refl
digit_by true a (suc zero) h = refl
digit_by true a (suc (suc n)) h = large (nat_le (suc (suc n)) largest) (nat_le (suc (suc n)) 1) (grind (arith, nat_tests))
  where
    large : (c d : Bool) → d ≡ false → has digits (cond c class_of_more class_of_none) ≡ d
    large true true e = sym e
    large false true e = sym e
    large true false e = refl
    large false false e = refl
digit_by false a v h = grind (arith, nat_tests)

-- the tests of the code are the tests of the classes

least_zero : (b c : Bool) (v : ℕ) → (b && (nat_le 0 v && c)) ≡ (b && c)
least_zero b c v = let e : nat_le 0 v ≡ true = grind (arith, nat_tests) in ap (λ d. b && (d && c)) e

pub numbers_within : (ts : List Lexeme) → is_within 0 largest ts ≡ next_in class_of numbers ts
unfolding class_of number_of
numbers_within [] = refl
numbers_within (l ∷ ls) = least_zero (sameb the_type l.kind k.Number) (nat_le l.value largest) l.value ∙ sym (numbers_by (sameb the_type l.kind k.Number) (tag_of the_type l.kind) l.value (few_kinds l.kind))

pub positive_within : (ts : List Lexeme) → is_within 1 largest ts ≡ next_in class_of positives ts
unfolding class_of number_of
positive_within [] = refl
positive_within (l ∷ ls) = sym (positive_by (sameb the_type l.kind k.Number) (tag_of the_type l.kind) l.value (few_kinds l.kind))

pub digits_within : (ts : List Lexeme) → is_within 0 1 ts ≡ next_in class_of digits ts
unfolding class_of number_of
digits_within [] = refl
digits_within (l ∷ ls) = least_zero (sameb the_type l.kind k.Number) (nat_le l.value 1) l.value ∙ sym (digit_by (sameb the_type l.kind k.Number) (tag_of the_type l.kind) l.value (few_kinds l.kind))

-- one kind after another

pub among_hit : (ts : List Lexeme) (n : ℕ) (ns : List ℕ) → next_in class_of (n ∷ []) ts ≡ true → next_in class_of (n ∷ ns) ts ≡ true
among_hit [] n ns e = e
among_hit (l ∷ ls) n ns e = ap (λ b. b || has ns (class_of l)) (no_more (eqb (class_of l) n) ∙ e)

pub among_miss : (ts : List Lexeme) (n : ℕ) (ns : List ℕ) → next_in class_of (n ∷ []) ts ≡ false → next_in class_of (n ∷ ns) ts ≡ next_in class_of ns ts
among_miss [] n ns e = refl
among_miss (l ∷ ls) n ns e = ap (λ b. b || has ns (class_of l)) (no_more (eqb (class_of l) n) ∙ e)

pub among_none : (ts : List Lexeme) → next_in class_of [] ts ≡ false
among_none [] = refl
among_none (l ∷ ls) = refl

-- A token that is in the class of a kind has that kind.
use Rattle.std.proofs.Common.{◌≡◌, ℕ, zero, suc, ◌<◌, ◌≤◌, Bool, true, false, cond, eqb, nat_le, ◌||◌, List, [], ◌∷◌, refl, arith}
use Rattle.std.proofs.lemmas.Bool.{eqb-true}
use denote.Enum.Bare.{same_true}
use Rattle.carol_grammar.specs.Sets.{has}
use Rattle.carol_syntax.specs.Limits.{largest}
use Rattle.carol_syntax.specs.declared.kind.Kind.{Kind}
use Rattle.carol_syntax.specs.declared.kind.Kind.TheVariants as k
use Rattle.carol_syntax.specs.contracts.Kind.{the_type}
use Rattle.carol_syntax.specs.declared.lexeme.Lexeme.{Lexeme}
use Rattle.carol_grammar.specs.Terminals.{number_of, class_of, numeral, class_of_zero, class_of_more, class_of_none}

below_numbers : (kind : Kind) → number_of kind < class_of_zero
unfolding number_of
below_numbers k.Name = omega arith
below_numbers _ = omega arith

above_words : (n : ℕ) → class_of_zero ≤ numeral n
above_words zero = omega arith
above_words (suc zero) = omega arith
above_words (suc (suc n)) = elim (nat_le (suc (suc n)) largest) as (λ b. class_of_zero ≤ cond b class_of_more class_of_none) [ true ↦ omega arith | false ↦ omega arith ]

or_false : (b : Bool) → (b || false) ≡ true → b ≡ true
or_false true h = refl
or_false false h = h

kind_by : (b : Bool) (kind other : Kind) (n : ℕ) → has (number_of kind ∷ []) (cond b (numeral n) (number_of other)) ≡ true → other ≡ kind
unfolding number_of
kind_by true kind other n h =
    let e : numeral n ≡ number_of kind = eqb-true (numeral n) (number_of kind) (or_false _ h) in
    absurd (omega (arith, below_numbers kind, above_words n))
kind_by false kind other n h = same_true the_type tt other kind (or_false _ h)

pub word_kind : (kind : Kind) (l : Lexeme) → has (number_of kind ∷ []) (class_of l) ≡ true → l.kind ≡ kind
unfolding class_of
word_kind kind l h = kind_by (eqb (number_of l.kind) (number_of k.Number)) kind l.kind l.value h

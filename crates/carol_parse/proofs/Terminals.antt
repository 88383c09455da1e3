-- Names and numbers.
use Rattle.std.proofs.Common.{◌≡◌, ℕ, zero, suc, ◌≤◌, ◌⊎◌, Bool, true, false, cond, eqb, ◌||◌, List, [], ◌∷◌, ℤ, pos, refl, inl, inr, arith}
use Rattle.std.proofs.lemmas.Bool.Decides.{nat_tests}
use Rattle.std.specs.Prelude.{nat_le, neg_ℤ}
use Rattle.carol_grammar.specs.Sets.{has}
use Rattle.carol_grammar.proofs.Says.{says_either}
use Rattle.carol_grammar.proofs.Given.{hold_token, hold_gives, hold_behind}
use Rattle.carol_syntax.specs.Limits.{largest}
use Rattle.carol_syntax.specs.Shape.{IsLiteral, IsWhole, IsName, IsNumber}
use Rattle.carol_syntax.specs.declared.kind.Kind.{Kind}
use Rattle.carol_syntax.specs.declared.kind.Kind.TheVariants as k
use Rattle.carol_syntax.specs.declared.lexeme.Lexeme.{Lexeme}
use Rattle.carol_grammar.specs.Terminals.{number_of, class_of, numeral, class_of_zero, class_of_more, class_of_none}
use Rattle.carol_grammar.proofs.TokenKinds.{word_kind}
use Rattle.carol_grammar.specs.Rules.{numbers, positives, digits, name, number, positive, num, int, bit}
use Rattle.carol_parse.proofs.Holds.{Holds}

-- no word is a number
no_number : (kind : Kind) → has numbers (number_of kind) ≡ false
unfolding number_of
no_number k.Number = refl
no_number _ = refl

numeral_small : (n : ℕ) → has numbers (numeral n) ≡ true → n ≤ largest
numeral_small zero h = omega arith
numeral_small (suc zero) h = omega arith
numeral_small (suc (suc n)) h = go (nat_le (suc (suc n)) largest) refl h
  where
    go : (b : Bool) → nat_le (suc (suc n)) largest ≡ b → has numbers (cond b class_of_more class_of_none) ≡ true → suc (suc n) ≤ largest
    go true e h = grind (arith, nat_tests)
    go false e h = absurd cc

small_by : (b : Bool) (kind : Kind) (n : ℕ) → has numbers (cond b (numeral n) (number_of kind)) ≡ true → n ≤ largest
small_by true kind n h = numeral_small n h
small_by false kind n h = absurd (cc (no_number kind, h))

small : (l : Lexeme) → has numbers (class_of l) ≡ true → IsLiteral l.value
unfolding class_of
small l h = small_by (eqb (number_of l.kind) (number_of k.Number)) l.kind l.value h

wider : (n : ℕ) → has positives n ≡ true → has numbers n ≡ true
wider n h = elim (eqb n class_of_zero) as (λ b. (b || has positives n) ≡ true) [ true ↦ refl | false ↦ h ]

negative : (n : ℕ) → IsLiteral n → IsWhole (neg_ℤ (pos n))
negative zero h = h
negative (suc n) h = omega arith

-- the numbers that a flag starts as
abbrev pub IsBit : ℤ → Type 0
IsBit z = (z ≡ pos 0) ⊎ (z ≡ pos 1)

no_digit : (kind : Kind) → has digits (number_of kind) ≡ false
unfolding number_of
no_digit k.Number = refl
no_digit _ = refl

no_larger : (b : Bool) → has digits (cond b class_of_more class_of_none) ≡ false
no_larger true = refl
no_larger false = refl

bit_by : (b : Bool) (kind : Kind) (n : ℕ) → has digits (cond b (numeral n) (number_of kind)) ≡ true → IsBit (pos n)
bit_by true kind zero h = inl refl
bit_by true kind (suc zero) h = inr refl
bit_by true kind (suc (suc n)) h = absurd (cc (no_larger (nat_le (suc (suc n)) largest), h))
bit_by false kind n h = absurd (cc (no_digit kind, h))

bit_class : (l : Lexeme) → has digits (class_of l) ≡ true → IsBit (pos l.value)
unfolding class_of
bit_class l h = bit_by (eqb (number_of l.kind) (number_of k.Number)) l.kind l.value h

module _ {bytes : List ℕ} where
  pub hold_name : Holds bytes (name bytes) IsName
  unfolding name
  hold_name = hold_gives (hold_token (λ l before h g. g.latest (word_kind k.Name l h))) (λ l h. h)

  pub hold_number : Holds bytes number (λ l. IsLiteral l.value)
  hold_number = hold_token (λ l before h g. small l h)

  pub hold_num : Holds bytes num IsNumber
  unfolding num
  hold_num = hold_gives hold_number (λ l h. h)

  hold_positive : Holds bytes positive (λ l. IsLiteral l.value)
  hold_positive = hold_token (λ l before h g. small l (wider (class_of l) h))

  pub hold_int : Holds bytes int IsWhole
  unfolding int
  hold_int = says_either (hold_gives hold_number (λ l h. h)) (hold_gives (hold_behind hold_positive) (λ l h. negative l.value h))

  pub hold_bit : Holds bytes bit IsBit
  unfolding bit
  hold_bit = hold_gives (hold_token (λ l before h g. bit_class l h)) (λ l h. h)

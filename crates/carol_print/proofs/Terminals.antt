-- Names and numbers.
use Rattle.std.proofs.Common.{◌≡◌, ℕ, zero, suc, ◌≤◌, true, List, ◌∷◌, ℤ, pos, negsuc, refl, sym, ◌∙◌, ap, subst, inl, inr, ◌⊎◌, arith}
use Rattle.std.proofs.lemmas.Bool.Decides.{nat_tests}
use Rattle.std.specs.Prelude.{nat_le, neg_ℤ}
use Rattle.carol_grammar.specs.Sets.{has}
use Rattle.carol_syntax.specs.declared.places.Ident.{Ident}
use Rattle.carol_syntax.specs.declared.places.Num.{Num}
use Rattle.carol_syntax.specs.Unplaced.{nowhere, unplaced_name, unplaced_number}
use Rattle.carol_syntax.specs.Shape.{IsLiteral, IsWhole}
use Rattle.carol_syntax.specs.declared.kind.Kind.TheVariants as k
use Rattle.carol_syntax.specs.declared.lexeme.Lexeme.{Lexeme}
use Rattle.carol_syntax.specs.Limits.{largest}
use Rattle.carol_grammar.specs.Terminals.{number_of, class_of, numeral}
use Rattle.carol_grammar.specs.Rules.{numbers, positives, digits, name, number, num, int, bit}
use Rattle.carol_print.specs.Pieces.{Piece}
use Rattle.carol_print.specs.Canonical as text
use Rattle.carol_print.proofs.Reached.{Same, Reaches, onto, reach_token, reach_word, reach_with, reach_gives, reach_left, reach_right, reach_behind}

class_of_number : (l : Lexeme) → l.kind ≡ k.Number → class_of l ≡ numeral l.value
unfolding class_of number_of
class_of_number l e = rw e refl

any_numeral : (n : ℕ) → n ≤ largest → has numbers (numeral n) ≡ true
any_numeral zero h = refl
any_numeral (suc zero) h = refl
any_numeral (suc (suc n)) h = let e : nat_le (suc (suc n)) largest ≡ true = grind (arith, nat_tests) in rw e refl

positive_numeral : (n : ℕ) → suc n ≤ largest → has positives (numeral (suc n)) ≡ true
positive_numeral zero h = refl
positive_numeral (suc n) h = let e : nat_le (suc (suc n)) largest ≡ true = grind (arith, nat_tests) in rw e refl

-- the class of a number's token is its numeral's
classed : (ks : List ℕ) (n : ℕ) → has ks (numeral n) ≡ true → (l : Lexeme) → l.kind ≡ k.Number → l.value ≡ n → has ks (class_of l) ≡ true
classed ks n h l e f = ap (has ks) (class_of_number l e ∙ ap numeral f) ∙ h

module _ {bytes : List ℕ} where
  pub reach_name : (i : Ident) {us : List Piece} → Reaches bytes (name bytes) (text.name i ∷ us) us (Same unplaced_name i)
  unfolding name
  reach_name i = reach_gives (reach_word refl) (λ l h. ap (λ w. record { word = w; span = nowhere }) h.2)

  pub reach_number : (n : ℕ) {us : List Piece} → IsLiteral n → Reaches bytes number (text.number n ∷ us) us (λ l. l.value ≡ n)
  reach_number n h = reach_with (reach_token (classed numbers n (any_numeral n h))) (λ l e. e.1)

  pub reach_num : (n : Num) {us : List Piece} → IsLiteral n.value → Reaches bytes num (text.number n.value ∷ us) us (Same unplaced_number n)
  unfolding num
  reach_num n h = reach_gives (reach_number n.value h) (λ l e. ap (λ v. record { value = v; span = nowhere }) e)

  pub reach_int : (z : ℤ) {us : List Piece} → IsWhole z → Reaches bytes int (onto (text.int z) us) us (λ y. y ≡ z)
  unfolding int
  reach_int (pos n) h = reach_left (reach_gives (reach_number n h) (λ l e. ap pos e))
  reach_int (negsuc n) h =
      reach_right (reach_gives (reach_behind refl (reach_token (classed positives (suc n) (positive_numeral n (omega arith)))))
      (λ l e. ap (λ v. neg_ℤ (pos v)) e.1))

  pub reach_bit : (z : ℤ) {us : List Piece} → (z ≡ pos 0) ⊎ (z ≡ pos 1) → Reaches bytes bit (onto (text.int z) us) us (λ y. y ≡ z)
  unfolding bit
  reach_bit z {us = us} (inl e) =
      subst (λ z. Reaches bytes bit (onto (text.int z) us) us (λ y. y ≡ z)) (sym e)
      (reach_gives (reach_token (classed digits 0 refl)) (λ l f. ap pos f.1))
  reach_bit z {us = us} (inr e) =
      subst (λ z. Reaches bytes bit (onto (text.int z) us) us (λ y. y ≡ z)) (sym e)
      (reach_gives (reach_token (classed digits 1 refl)) (λ l f. ap pos f.1))

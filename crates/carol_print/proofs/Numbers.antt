-- Numbers: they are the same number before bytes that don't lengthen them, and each is spelled in
-- decimal.
use Rattle.std.proofs.Common.{◌≡◌, ℕ, suc, ◌-◌, ◌<◌, ◌≤◌, true, false, cond, List, [], ◌∷◌, ◌++◌, length, refl, sym, ap, subst, arith, ◌∙◌, Result, Ok, Err, length-append}
use Rattle.std.specs.Prelude.{None, decimal}
use Rattle.std.specs.Char.{is_ascii_digit}
use Rattle.std.proofs.lemmas.Bool.{not-true}
use Rattle.std.proofs.lemmas.Bool.Decides.{nat_tests}
use Rattle.std.proofs.lemmas.List.{append-nil}
use Rattle.carol_text.specs.Number.{number_at, starts_with_digit}
use Rattle.carol_text.proofs.Laws.{number_takes, number_again, decimal_first}
use Rattle.carol_syntax.specs.Words.{is_small_letter, is_word_byte}
use Rattle.carol_syntax.specs.Limits.{largest}
use Rattle.carol_syntax.specs.declared.kind.Kind.{Kind}
use Rattle.carol_syntax.specs.declared.kind.Kind.TheVariants as k
use Rattle.carol_syntax.specs.declared.found.Found.{Found}
use Rattle.carol_syntax.specs.First.{first_token, judged_number}
use Rattle.carol_print.specs.Pieces.{ends_before, IsSpelled}
use Rattle.carol_print.proofs.Symbols.{token_with, same_found}

-- the bytes are found to be the number n, and nothing stands behind it
record IsWhole (bytes : List ℕ) (kind : Kind) (value : ℕ) : Type 0 where
  number : kind ≡ k.Number
  within : value ≤ largest
  decimal_is : bytes ≡ decimal value

no_bytes : (bytes : List ℕ) → length bytes ≡ 0 → bytes ≡ []
no_bytes [] h = refl
no_bytes (b ∷ bytes) h = absurd (omega arith)

whole_of : (bytes : List ℕ) (reading : Result (ℕ × List ℕ) ℕ) (kind : Kind) (value : ℕ) → number_at largest bytes ≡ reading → judged_number bytes reading ≡ token_with kind value (length bytes) → 0 < length bytes → IsWhole bytes kind value
whole_of bytes (Err left) kind value read h some = absurd cc
whole_of bytes (Ok (n, rest)) kind value read h some =
    elim (starts_with_digit rest) as (λ t. cond t None (token_with k.Number n (length bytes - length rest)) ≡ token_with kind value (length bytes) → IsWhole bytes kind value) [
      | true ↦ λ e. absurd cc
      | false ↦ λ e.
          let same = same_found _ _ e in
          let takes = number_takes largest bytes n rest (omega arith) read in
          let left = ap (λ (f : Found). f.length) same in
          let all = ap length takes.1 in
          let end : rest ≡ [] = no_bytes rest (omega (arith, left, all, some, length-append (decimal n) rest)) in
          let value_is : n ≡ value = ap (λ (f : Found). f.value) same in
          record {
            number = sym (ap (λ (f : Found). f.kind) same);
            within = omega (arith, takes.0, value_is);
            decimal_is = takes.1 ∙ rw (end, append-nil, value_is) refl;
          }
    ] h

no_digit : (b : ℕ) → is_word_byte b ≡ false → is_ascii_digit b ≡ false
no_digit b e = grind (arith, nat_tests)

number_ends : (bytes : List ℕ) → ends_before k.Number bytes ≡ true → starts_with_digit bytes ≡ false
number_ends [] e = refl
number_ends (b ∷ bytes) e = no_digit b (not-true (is_word_byte b) e)

judged_again : (n : ℕ) (bytes : List ℕ) → n ≤ largest → ends_before k.Number bytes ≡ true → judged_number (decimal n ++ bytes) (number_at largest (decimal n ++ bytes)) ≡ token_with k.Number n (length (decimal n))
judged_again n bytes fits e =
    let end = number_ends bytes e in
    let count : length (decimal n ++ bytes) - length bytes ≡ length (decimal n) = omega (arith, length-append (decimal n) bytes) in
    rw (number_again largest n bytes (omega arith) fits end, end, count) refl

pub number_goes : (spelled bytes : List ℕ) (kind : Kind) (value : ℕ) → 0 < length spelled → judged_number spelled (number_at largest spelled) ≡ token_with kind value (length spelled) → ends_before kind bytes ≡ true
    → judged_number (spelled ++ bytes) (number_at largest (spelled ++ bytes)) ≡ token_with kind value (length spelled)
number_goes spelled bytes kind value some h e =
    let whole = whole_of spelled (number_at largest spelled) kind value refl h some in
    let end = subst (λ (x : Kind). ends_before x bytes ≡ true) whole.number e in
    rw (whole.number, whole.decimal_is) (judged_again value bytes whole.within end)

digit_begins : (c n : ℕ) (cs : List ℕ) → 48 ≤ c → c ≤ 57 → judged_number (c ∷ cs) (number_at largest (c ∷ cs)) ≡ token_with k.Number n (suc (length cs)) → first_token (c ∷ cs) ≡ token_with k.Number n (suc (length cs))
unfolding first_token
digit_begins c n cs low high h =
    let letter : is_small_letter c ≡ false = grind (arith, nat_tests) in
    let digit : is_ascii_digit c ≡ true = grind (arith, nat_tests) in
    rw (letter, digit) h

pub number_spelled : (n : ℕ) → n ≤ largest → IsSpelled k.Number n (decimal n)
number_spelled n fits =
    let first = decimal_first n (omega arith) in
    let again : judged_number (decimal n) (number_at largest (decimal n)) ≡ token_with k.Number n (length (decimal n)) = rw append-nil at (judged_again n [] fits refl) in
    rw first.2 (digit_begins first.0 n first.1 first.3 first.4 (rw first.2 at again))

-- What stands before a bad byte begins a text that would be read.
use Rattle.std.proofs.Common.{◌≡◌, ℕ, ◌+◌, ◌-◌, ◌*◌, ◌/◌, ◌%◌, ◌^◌, ◌<◌, ◌≤◌, zero, suc, Bool, true, false, cond, eqb, leb, ◌⊎◌, inl, inr, List, [], ◌∷◌, ◌++◌, length, Result, Ok, Err, ℤ, pos, negsuc, refl, sym, ◌∙◌, ap, append_assoc, append-nil, arith}
use Rattle.std.specs.Prelude.{decimal}
use Rattle.std.specs.Fmt.{signed_decimal}
use Rattle.std.specs.Char.{is_ascii_digit}
use Rattle.std.proofs.lemmas.Bool.Decides.{nat_tests}
use Rattle.std.proofs.lemmas.Fmt.{decimal_digit, decimal_step_wide}
use Rattle.carol_text.specs.Number.{IsWithin, digits_after, integer_at, negative, number_at}
use Rattle.carol_text.specs.Reading.{◌>>=◌, word_at}

-- a bad byte, with what stands before it and from it on
pub record Cut (bytes : List ℕ) (left : ℕ) : Type 0 where
  pub front : List ℕ
  pub rest : List ℕ
  pub are : bytes ≡ front ++ rest
  pub long : length rest ≡ left

-- and what stands before it begins the text of something that fits
pub record Begun {X : Type 0} (fits : X → Type 0) (text : X → List ℕ) (bytes : List ℕ) (left : ℕ) : Type 0 where
  pub cut : Cut bytes left
  pub one : X
  pub fit : fits one
  pub more : List ℕ
  pub spelled : text one ≡ cut.front ++ more

-- a step that failed: it was the first or the second
pub bind_err : {X Y : Type 0} (r : Result X ℕ) (f : X → Result Y ℕ) (left : ℕ) → (r >>= f) ≡ Err left → (r ≡ Err left) ⊎ ((x : X) × (r ≡ Ok x) × (f x ≡ Err left))
bind_err (Ok x) f left e = inr (x, refl, e)
bind_err (Err bad) f left e = inl (let same : bad ≡ left = cc in ap (λ (k : ℕ). Err k) same)

-- a test that failed
pub if_err : {X : Type 0} (b : Bool) (r s : Result X ℕ) (left : ℕ) → cond b r s ≡ Err left → ((b ≡ true) × (r ≡ Err left)) ⊎ ((b ≡ false) × (s ≡ Err left))
if_err true r s left e = inl (refl, e)
if_err false r s left e = inr (refl, e)

pub same_left : {X : Type 0} (m n : ℕ) → ◌≡◌ {A = Result X ℕ} (Err m) (Err n) → m ≡ n
same_left m n e = cc

pub not_ok : {X : Type 0} (x : X) (n : ℕ) → ◌≡◌ {A = Result X ℕ} (Ok x) (Err n) → ⊥
not_ok x n e = cc

-- ---- a fixed word

pub record BegunWord (word bytes : List ℕ) (left : ℕ) : Type 0 where
  pub cut : Cut bytes left
  pub more : List ℕ
  pub spelled : word ≡ cut.front ++ more

one_byte : (b : ℕ) (word bytes : List ℕ) (left : ℕ) → BegunWord word bytes left → BegunWord (b ∷ word) (b ∷ bytes) left
one_byte b word bytes left h = record {
  cut = record { front = b ∷ h.cut.front; rest = h.cut.rest; are = ap (λ (t : List ℕ). b ∷ t) h.cut.are; long = h.cut.long };
  more = h.more;
  spelled = ap (λ (t : List ℕ). b ∷ t) h.spelled;
}

pub word_begun : (word bytes : List ℕ) (left : ℕ) → word_at word bytes ≡ Err left → BegunWord word bytes left
unfolding word_at
word_begun [] bytes left e = absurd (not_ok bytes left e)
word_begun (w ∷ ws) [] left e = record { cut = record { front = []; rest = []; are = refl; long = same_left {X = List ℕ} 0 left e }; more = w ∷ ws; spelled = refl }
word_begun (w ∷ ws) (b ∷ bs) left e = elim (if_err (eqb b w) (word_at ws bs) (Err (suc (length bs))) left e) [
  | inl (same, further) ↦
      let is : b ≡ w = grind (arith, nat_tests)
      in rw (← is) (one_byte b ws bs left (word_begun ws bs left further))
  | inr (other, here) ↦ record { cut = record { front = []; rest = b ∷ bs; are = refl; long = same_left {X = List ℕ} (suc (length bs)) left here }; more = w ∷ ws; spelled = refl }
]

-- ---- numbers

abbrev pub Number : ℕ → ℕ → Type 0
Number most n = (0 < n) × (n ≤ most)

-- digits behind those of a number
record Further (most n : ℕ) (bytes : List ℕ) (left : ℕ) : Type 0 where
  cut : Cut bytes left
  number : ℕ
  fit : Number most number
  spelled : decimal number ≡ decimal n ++ cut.front

digit_is : (c : ℕ) → is_ascii_digit c ≡ true → (48 ≤ c) × (c ≤ 57)
digit_is c e = (grind (arith, nat_tests), grind (arith, nat_tests))

-- one more digit at the end of a number that is not 0
decimal_more : (n c : ℕ) → 0 < n → 48 ≤ c → c ≤ 57 → 10 * n + (c - 48) < 10 ^ 64 → decimal (10 * n + (c - 48)) ≡ decimal n ++ c ∷ []
decimal_more n c some low high small =
    let front : (10 * n + (c - 48)) / 10 ≡ n = omega arith
    in let last : 48 + (10 * n + (c - 48)) % 10 ≡ c = omega arith
    in decimal_step_wide (10 * n + (c - 48)) (omega arith) small ∙ rw (front, last) refl

-- one more byte in front
abbrev pub cut_more : (front bytes : List ℕ) (left : ℕ) → Cut bytes left → Cut (front ++ bytes) left
cut_more front bytes left h = record { front = front ++ h.front; rest = h.rest; are = ap (λ (t : List ℕ). front ++ t) h.are ∙ sym (append_assoc front h.front h.rest); long = h.long }

-- at once
abbrev pub cut_here : (bytes : List ℕ) (left : ℕ) → length bytes ≡ left → Cut bytes left
cut_here bytes left long = record { front = []; rest = bytes; are = refl; long = long }

digits_begun : (most n : ℕ) (bytes : List ℕ) (left : ℕ) → most < 10 ^ 64 → Number most n → digits_after most n bytes ≡ Err left → Further most n bytes left
unfolding digits_after
digits_begun most n [] left wide fit e = absurd (not_ok (n, []) left e)
digits_begun most n (c ∷ cs) left wide fit e =
    elim (if_err (is_ascii_digit c) (cond (leb (10 * n + (c - 48)) most) (digits_after most (10 * n + (c - 48)) cs) (Err (suc (length cs)))) (Ok (n, c ∷ cs)) left e) [
      | inl (digit, further) ↦ elim (if_err (leb (10 * n + (c - 48)) most) (digits_after most (10 * n + (c - 48)) cs) (Err (suc (length cs))) left further) [
        | inl (small, more) ↦
            let range = digit_is c digit
            in let fits : 10 * n + (c - 48) ≤ most = grind (arith, nat_tests)
            in one_more range.0 range.1 fits (digits_begun most (10 * n + (c - 48)) cs left wide (omega (arith, fit.0), fits) more)
        | inr (large, here) ↦ record { cut = cut_here (c ∷ cs) left (same_left {X = ℕ × List ℕ} (suc (length cs)) left here); number = n; fit = fit; spelled = sym (append-nil (decimal n)) }
      ]
      | inr (other, done) ↦ absurd (not_ok (n, c ∷ cs) left done)
    ]
  where
    one_more : 48 ≤ c → c ≤ 57 → 10 * n + (c - 48) ≤ most → Further most (10 * n + (c - 48)) cs left → Further most n (c ∷ cs) left
    one_more low high fits h = record {
      cut = cut_more (c ∷ []) cs left h.cut;
      number = h.number;
      fit = h.fit;
      spelled = h.spelled ∙ ap (λ (t : List ℕ). t ++ h.cut.front) (decimal_more n c fit.0 low high (omega arith)) ∙ append_assoc (decimal n) (c ∷ []) h.cut.front;
    }

pub number_begun : (most : ℕ) (bytes : List ℕ) (left : ℕ) → most < 10 ^ 64 → 0 < most → number_at most bytes ≡ Err left → Begun (Number most) decimal bytes left
unfolding number_at digits_after
number_begun most [] left wide some e = record { cut = cut_here [] left (same_left {X = ℕ × List ℕ} 0 left e); one = 1; fit = (omega arith, some); more = decimal 1; spelled = refl }
number_begun most (c ∷ cs) left wide some e =
    elim (if_err (eqb c 48) (Ok (0, cs)) (cond (is_ascii_digit c) (digits_after most 0 (c ∷ cs)) (Err (suc (length cs)))) left e) [
      | inl (nought, done) ↦ absurd (not_ok (0, cs) left done)
      | inr (other, further) ↦ elim (if_err (is_ascii_digit c) (digits_after most 0 (c ∷ cs)) (Err (suc (length cs))) left further) [
        | inl (digit, more) ↦ elim (if_err (leb (10 * 0 + (c - 48)) most) (digits_after most (10 * 0 + (c - 48)) cs) (Err (suc (length cs))) left (rw digit at more)) [
          | inl (small, last) ↦
              let range = digit_is c digit
              in let fits : 10 * 0 + (c - 48) ≤ most = grind (arith, nat_tests)
              in let positive : 48 < c = grind (arith, nat_tests)
              in first positive range.1 (digits_begun most (10 * 0 + (c - 48)) cs left wide (omega arith, fits) last)
          | inr (large, here) ↦ at_once (same_left {X = ℕ × List ℕ} (suc (length cs)) left here)
        ]
        | inr (letter, here) ↦ at_once (same_left {X = ℕ × List ℕ} (suc (length cs)) left here)
      ]
    ]
  where
    at_once : suc (length cs) ≡ left → Begun (Number most) decimal (c ∷ cs) left
    at_once long = record { cut = cut_here (c ∷ cs) left long; one = 1; fit = (omega arith, some); more = decimal 1; spelled = refl }

    first : 48 < c → c ≤ 57 → Further most (10 * 0 + (c - 48)) cs left → Begun (Number most) decimal (c ∷ cs) left
    first low high h =
        let back : 48 + (10 * 0 + (c - 48)) ≡ c = omega arith
        in let digit : decimal (10 * 0 + (c - 48)) ≡ c ∷ [] = decimal_digit (10 * 0 + (c - 48)) (omega arith) ∙ rw back refl
        in record {
          cut = cut_more (c ∷ []) cs left h.cut;
          one = h.number;
          fit = h.fit;
          more = [];
          spelled = h.spelled ∙ ap (λ (t : List ℕ). t ++ h.cut.front) digit ∙ sym (append-nil (c ∷ h.cut.front));
        }

pub integer_begun : (deepest highest : ℕ) (bytes : List ℕ) (left : ℕ) → deepest < 10 ^ 64 → highest < 10 ^ 64 → 0 < deepest → 0 < highest → integer_at deepest highest bytes ≡ Err left → Begun (IsWithin deepest highest) signed_decimal bytes left
unfolding integer_at
integer_begun deepest highest [] left deep high some also e =
    record { cut = cut_here [] left (same_left {X = ℤ × List ℕ} 0 left e); one = pos 0; fit = omega arith; more = signed_decimal (pos 0); spelled = refl }
integer_begun deepest highest (c ∷ cs) left deep high some also e =
    elim (if_err (eqb c 45) (number_at deepest cs >>= λ x. negative (length cs) x.0 x.1) (number_at highest (c ∷ cs) >>= λ x. Ok (pos x.0, x.1)) left e) [
      | inl (minus, read) ↦
          let is : c ≡ 45 = grind (arith, nat_tests)
          in rw is (elim (bind_err (number_at deepest cs) (λ x. negative (length cs) x.0 x.1) left read) [
            | inl bad ↦ below (number_begun deepest cs left deep some bad)
            | inr (x, done, nought) ↦ zero_behind x.0 x.1 nought
          ])
      | inr (other, read) ↦ elim (bind_err (number_at highest (c ∷ cs)) (λ x. Ok (pos x.0, x.1)) left read) [
        | inl bad ↦ above (number_begun highest (c ∷ cs) left high also bad)
        | inr (x, done, never) ↦ absurd (not_ok (pos x.0, x.1) left never)
      ]
    ]
  where
    below : Begun (Number deepest) decimal cs left → Begun (IsWithin deepest highest) signed_decimal (45 ∷ cs) left
    below h = signed h.one h.fit h.spelled
      where
        signed : (n : ℕ) → Number deepest n → decimal n ≡ h.cut.front ++ h.more → Begun (IsWithin deepest highest) signed_decimal (45 ∷ cs) left
        signed zero fit spelled = absurd (omega (arith, fit.0))
        signed (suc n) fit spelled = record {
          cut = cut_more (45 ∷ []) cs left h.cut;
          one = negsuc n;
          fit = fit.1;
          more = h.more;
          spelled = ap (λ (t : List ℕ). 45 ∷ t) spelled;
        }

    zero_behind : (n : ℕ) (rest : List ℕ) → negative (length cs) n rest ≡ Err left → Begun (IsWithin deepest highest) signed_decimal (45 ∷ cs) left
    zero_behind zero rest e = record {
      cut = cut_more (45 ∷ []) cs left (cut_here cs left (same_left {X = ℤ × List ℕ} (length cs) left e));
      one = negsuc 0;
      fit = some;
      more = decimal 1;
      spelled = refl;
    }
    zero_behind (suc n) rest e = absurd (not_ok (negsuc n, rest) left e)

    above : Begun (Number highest) decimal (c ∷ cs) left → Begun (IsWithin deepest highest) signed_decimal (c ∷ cs) left
    above h = record { cut = h.cut; one = pos h.one; fit = h.fit.1; more = h.more; spelled = h.spelled }

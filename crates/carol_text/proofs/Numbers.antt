-- A number that is read is spelled so, and what is spelled so is read.
use Rattle.std.proofs.Common.{◌≡◌, ℕ, zero, suc, ◌+◌, ◌-◌, ◌*◌, ◌/◌, ◌%◌, ◌^◌, ◌<◌, ◌≤◌, Bool, true, false, cond, eqb, leb, List, [], ◌∷◌, ◌++◌, length, get_or, drop, Ok, Err, refl, sym, ap, subst, ◌∙◌, append_assoc, arith, drop-cons, add-one, inl, inr, ◌⊎◌}
use Rattle.std.specs.Prelude.{decimal, ℤ, pos, negsuc}
use Rattle.std.specs.Fmt.{signed_decimal}
use Rattle.std.specs.Char.{is_ascii_digit}
use Rattle.std.proofs.lemmas.Bool.Decides.{nat_tests}
use Rattle.std.proofs.lemmas.Fmt.{decimal_digit, decimal_step_wide, decimal_by_steps_wide}
use Rattle.std.proofs.Math.ListN.{drop_of_length-le}
use Rattle.carol_text.specs.Reading.{◌>>=◌}
use Rattle.carol_text.specs.Number.{starts_with_digit, digits_after, number_at, unsigned_at, below_zero_at, integer_at, negative, IsWithin}
use Rattle.carol_text.proofs.Words.{bind_ok, guard_ok, ok_parts}

digit_is : (c : ℕ) → is_ascii_digit c ≡ true → (48 ≤ c) × (c ≤ 57)
digit_is c e = (grind (arith, nat_tests), grind (arith, nat_tests))

is_digit : (c : ℕ) → 48 ≤ c → c ≤ 57 → is_ascii_digit c ≡ true
is_digit c low high = grind (arith, nat_tests)

-- which way a test went
chosen : {X : Type 0} (b : Bool) (x y z : X) → cond b x y ≡ z → ((b ≡ true) × (x ≡ z)) ⊎ ((b ≡ false) × (y ≡ z))
chosen true x y z e = inl (refl, e)
chosen false x y z e = inr (refl, e)

-- one more digit at the end of a number that is not 0
decimal_more : (n c : ℕ) → 0 < n → 48 ≤ c → c ≤ 57 → 10 * n + (c - 48) < 10 ^ 64 → decimal (10 * n + (c - 48)) ≡ decimal n ++ c ∷ []
decimal_more n c some low high small =
    let front : (10 * n + (c - 48)) / 10 ≡ n = omega arith in
    let last : 48 + (10 * n + (c - 48)) % 10 ≡ c = omega arith in
    decimal_step_wide (10 * n + (c - 48)) (omega arith) small ∙ rw (front, last) refl

-- ---- reading a digit

digits_go_on : (most n c : ℕ) (cs : List ℕ) → 48 ≤ c → c ≤ 57 → 10 * n + (c - 48) ≤ most → digits_after most n (c ∷ cs) ≡ digits_after most (10 * n + (c - 48)) cs
unfolding digits_after
digits_go_on most n c cs low high fits =
    let digit : is_ascii_digit c ≡ true = is_digit c low high in
    let small : leb (10 * n + (c - 48)) most ≡ true = grind (arith, nat_tests) in
    rw (digit, small) refl

digits_pass : (most n c : ℕ) (cs : List ℕ) → 48 ≤ c → c ≤ 57 → most < 10 * n + (c - 48) → digits_after most n (c ∷ cs) ≡ Err (suc (length cs))
unfolding digits_after
digits_pass most n c cs low high passes =
    let digit : is_ascii_digit c ≡ true = is_digit c low high in
    let large : leb (10 * n + (c - 48)) most ≡ false = grind (arith, nat_tests) in
    rw (digit, large) refl

digits_end : (most n : ℕ) (rest : List ℕ) → starts_with_digit rest ≡ false → digits_after most n rest ≡ Ok (n, rest)
unfolding digits_after
digits_end most n [] e = refl
digits_end most n (c ∷ cs) e = rw e refl

number_goes_on : (most c : ℕ) (cs : List ℕ) → 48 < c → c ≤ 57 → number_at most (c ∷ cs) ≡ digits_after most 0 (c ∷ cs)
unfolding number_at
number_goes_on most c cs low high =
    let other : eqb c 48 ≡ false = grind (arith, nat_tests) in
    let digit : is_ascii_digit c ≡ true = is_digit c (omega arith) high in
    rw (other, digit) refl

-- ---- what is read is spelled so

digits_take : (most n : ℕ) (bytes : List ℕ) (m : ℕ) (rest : List ℕ) → most < 10 ^ 64 → 0 < n → n ≤ most → digits_after most n bytes ≡ Ok (m, rest)
    → (m ≤ most) × (decimal n ++ bytes ≡ decimal m ++ rest)
unfolding digits_after
digits_take most n [] m rest wide some fits e =
    let same = ok_parts n m [] rest e in
    (omega (arith, same.0), rw (same.0, same.1) refl)
digits_take most n (c ∷ cs) m rest wide some fits e =
    elim (chosen (is_ascii_digit c) (cond (leb (10 * n + (c - 48)) most) (digits_after most (10 * n + (c - 48)) cs) (Err (suc (length cs)))) (Ok (n, c ∷ cs)) (Ok (m, rest)) e) [
      | inl (digit, more) ↦
          let range = digit_is c digit in
          let g = guard_ok (leb (10 * n + (c - 48)) most) (digits_after most (10 * n + (c - 48)) cs) (suc (length cs)) (m, rest) more in
          let small : 10 * n + (c - 48) ≤ most = let t = g.0 in grind (arith, nat_tests) in
          let next = digits_take most (10 * n + (c - 48)) cs m rest wide (omega arith) small g.1 in
          let spelled : decimal n ++ c ∷ [] ≡ decimal (10 * n + (c - 48)) = sym (decimal_more n c some range.0 range.1 (omega arith)) in
          (next.0, sym (append_assoc (decimal n) (c ∷ []) cs) ∙ ap (λ (t : List ℕ). t ++ cs) spelled ∙ next.1)
      | inr (end, done) ↦
          let same = ok_parts n m (c ∷ cs) rest done in
          (omega (arith, same.0), rw (same.0, same.1) refl)
    ]

pub number_takes : (most : ℕ) (bytes : List ℕ) (n : ℕ) (rest : List ℕ) → most < 10 ^ 64 → number_at most bytes ≡ Ok (n, rest) → (n ≤ most) × (bytes ≡ decimal n ++ rest)
unfolding number_at digits_after
number_takes most [] n rest wide e = absurd cc
number_takes most (c ∷ cs) n rest wide e =
    elim (chosen (eqb c 48) (Ok (0, cs)) (cond (is_ascii_digit c) (digits_after most 0 (c ∷ cs)) (Err (suc (length cs)))) (Ok (n, rest)) e) [
      | inl (nought, done) ↦
          let is : c ≡ 48 = grind (arith, nat_tests) in
          let same = ok_parts 0 n cs rest done in
          let spelled : decimal n ≡ 48 ∷ [] = rw (← same.0) (decimal_digit 0 (omega arith)) in
          (omega (arith, same.0), rw (spelled, is, same.1) refl)
      | inr (other, more) ↦
          let g = guard_ok (is_ascii_digit c) (digits_after most 0 (c ∷ cs)) (suc (length cs)) (n, rest) more in
          let range = digit_is c g.0 in
          let some : 48 < c = grind (arith, nat_tests) in
          let h = guard_ok (leb (10 * 0 + (c - 48)) most) (digits_after most (10 * 0 + (c - 48)) cs) (suc (length cs)) (n, rest) (rw g.0 at g.1) in
          let small : 10 * 0 + (c - 48) ≤ most = let t = h.0 in grind (arith, nat_tests) in
          let next = digits_take most (10 * 0 + (c - 48)) cs n rest wide (omega arith) small h.1 in
          let back : 48 + (10 * 0 + (c - 48)) ≡ c = omega arith in
          let spelled : decimal (10 * 0 + (c - 48)) ≡ c ∷ [] = decimal_digit (10 * 0 + (c - 48)) (omega arith) ∙ rw back refl in
          (next.0, ap (λ (t : List ℕ). t ++ cs) (sym spelled) ∙ next.1)
    ]

-- ---- what is spelled so is read

number_reads : (most n : ℕ) → n < 10 ^ 64 → 0 < n → n ≤ most → (more : List ℕ) → number_at most (decimal n ++ more) ≡ digits_after most n more
number_reads most n wide =
    decimal_by_steps_wide (λ n ds. 0 < n → n ≤ most → (more : List ℕ) → number_at most (ds ++ more) ≡ digits_after most n more) one step n wide
  where
    one : (n : ℕ) → n < 10 → 0 < n → n ≤ most → (more : List ℕ) → number_at most ((48 + n) ∷ [] ++ more) ≡ digits_after most n more
    one n digit some fits more =
        let value : 10 * 0 + ((48 + n) - 48) ≡ n = omega arith in
        number_goes_on most (48 + n) more (omega arith) (omega arith) ∙ digits_go_on most 0 (48 + n) more (omega arith) (omega arith) (omega arith) ∙ rw value refl

    step : (n : ℕ) (ds : List ℕ) → 10 ≤ n → (0 < n / 10 → n / 10 ≤ most → (more : List ℕ) → number_at most (ds ++ more) ≡ digits_after most (n / 10) more)
        → 0 < n → n ≤ most → (more : List ℕ) → number_at most ((ds ++ (48 + n % 10) ∷ []) ++ more) ≡ digits_after most n more
    step n ds large front some fits more =
        let value : 10 * (n / 10) + ((48 + n % 10) - 48) ≡ n = omega arith in
        ap (number_at most) (append_assoc ds ((48 + n % 10) ∷ []) more) ∙ front (omega arith) (omega arith) ((48 + n % 10) ∷ more)
        ∙ digits_go_on most (n / 10) (48 + n % 10) more (omega arith) (omega arith) (omega arith) ∙ rw value refl

pub number_again : (most n : ℕ) (rest : List ℕ) → most < 10 ^ 64 → n ≤ most → starts_with_digit rest ≡ false → number_at most (decimal n ++ rest) ≡ Ok (n, rest)
unfolding number_at
number_again most zero rest wide fits end = rw (decimal_digit 0 (omega arith)) refl
number_again most (suc n) rest wide fits end =
    number_reads most (suc n) (omega arith) (omega arith) fits rest ∙ digits_end most (suc n) rest end

-- ---- signs

-- the text of a number begins with a digit
pub decimal_first : (n : ℕ) → n < 10 ^ 64 → (c : ℕ) × (cs : List ℕ) × (decimal n ≡ c ∷ cs) × (48 ≤ c) × (c ≤ 57)
decimal_first n wide =
    decimal_by_steps_wide (λ n ds. (c : ℕ) × (cs : List ℕ) × (ds ≡ c ∷ cs) × (48 ≤ c) × (c ≤ 57))
    (λ n digit. (48 + n, [], refl, omega arith, omega arith))
    (λ n ds large front. (front.0, front.1 ++ (48 + n % 10) ∷ [], ap (λ (t : List ℕ). t ++ (48 + n % 10) ∷ []) front.2, front.3, front.4))
    n wide

negative_takes : (left n : ℕ) (rest : List ℕ) (z : ℤ) (after : List ℕ) (deepest highest : ℕ) → n ≤ deepest → negative left n rest ≡ Ok (z, after)
    → IsWithin deepest highest z × (45 ∷ (decimal n ++ rest) ≡ signed_decimal z ++ after)
negative_takes left zero rest z after deepest highest fits e = absurd cc
negative_takes left (suc n) rest z after deepest highest fits e =
    let same = ok_parts (negsuc n) z rest after e in
    subst (λ (y : ℤ). IsWithin deepest highest y × (45 ∷ (decimal (suc n) ++ rest) ≡ signed_decimal y ++ after)) same.0 (fits, rw same.1 refl)

pub integer_takes : (deepest highest : ℕ) (bytes : List ℕ) (z : ℤ) (rest : List ℕ) → deepest < 10 ^ 64 → highest < 10 ^ 64 → integer_at deepest highest bytes ≡ Ok (z, rest)
    → IsWithin deepest highest z × (bytes ≡ signed_decimal z ++ rest)
unfolding integer_at
integer_takes deepest highest [] z rest deep high e = absurd cc
integer_takes deepest highest (c ∷ cs) z rest deep high e =
    elim (chosen (eqb c 45) (number_at deepest cs >>= λ x. negative (length cs) x.0 x.1) (number_at highest (c ∷ cs) >>= λ x. Ok (pos x.0, x.1)) (Ok (z, rest)) e) [
      | inl (minus, read) ↦
          let is : c ≡ 45 = grind (arith, nat_tests) in
          let b = bind_ok (number_at deepest cs) (λ x. negative (length cs) x.0 x.1) (z, rest) read in
          let t = number_takes deepest cs b.0.0 b.0.1 deep b.1 in
          let s = negative_takes (length cs) b.0.0 b.0.1 z rest deepest highest t.0 b.2 in
          (s.0, rw (is, t.1) s.1)
      | inr (other, read) ↦
          let b = bind_ok (number_at highest (c ∷ cs)) (λ x. Ok (pos x.0, x.1)) (z, rest) read in
          let t = number_takes highest (c ∷ cs) b.0.0 b.0.1 high b.1 in
          let same = ok_parts (pos b.0.0) z b.0.1 rest b.2 in
          subst (λ (y : ℤ). IsWithin deepest highest y × (c ∷ cs ≡ signed_decimal y ++ rest)) same.0 (t.0, t.1 ∙ rw same.1 refl)
    ]

pub integer_again : (deepest highest : ℕ) (z : ℤ) (rest : List ℕ) → deepest < 10 ^ 64 → highest < 10 ^ 64 → IsWithin deepest highest z → starts_with_digit rest ≡ false
    → integer_at deepest highest (signed_decimal z ++ rest) ≡ Ok (z, rest)
unfolding integer_at
integer_again deepest highest (pos n) rest deep high fits end =
    let first = decimal_first n (omega arith) in
    let other : eqb first.0 45 ≡ false = let low = first.3 in grind (arith, nat_tests) in
    let read : number_at highest (first.0 ∷ (first.1 ++ rest)) ≡ Ok (n, rest) = ap (λ (t : List ℕ). number_at highest (t ++ rest)) (sym first.2) ∙ number_again highest n rest high fits end in
    ap (λ (t : List ℕ). integer_at deepest highest (t ++ rest)) first.2 ∙ rw (other, read) refl
integer_again deepest highest (negsuc n) rest deep high fits end =
    rw (number_again deepest (suc n) rest deep fits end) refl

-- ---- byte by byte, as a loop goes

pub digits_over : (most n : ℕ) (bytes : List ℕ) (i : ℕ) → length bytes ≤ i → digits_after most n (drop i bytes) ≡ Ok (n, [])
unfolding digits_after
digits_over most n bytes i past = rw (drop_of_length-le bytes past) refl

pub digits_stop : (most n : ℕ) (bytes : List ℕ) (i : ℕ) → i < length bytes → is_ascii_digit (get_or bytes i 0) ≡ false → digits_after most n (drop i bytes) ≡ Ok (n, drop i bytes)
unfolding digits_after
digits_stop most n bytes i inside other = rw (drop-cons bytes i 0, other) refl

pub digits_step : (most n : ℕ) (bytes : List ℕ) (i : ℕ) → i < length bytes → is_ascii_digit (get_or bytes i 0) ≡ true → 10 * n + (get_or bytes i 0 - 48) ≤ most
    → digits_after most n (drop i bytes) ≡ digits_after most (10 * n + (get_or bytes i 0 - 48)) (drop (i + 1) bytes)
digits_step most n bytes i inside digit fits =
    let range = digit_is (get_or bytes i 0) digit in
    rw (add-one, drop-cons bytes i 0) (digits_go_on most n (get_or bytes i 0) (drop (suc i) bytes) range.0 range.1 fits)

pub digits_fail : (most n : ℕ) (bytes : List ℕ) (i : ℕ) → i < length bytes → is_ascii_digit (get_or bytes i 0) ≡ true → (10 * n + (get_or bytes i 0 - 48) ≤ most → ⊥)
    → digits_after most n (drop i bytes) ≡ Err (length (drop i bytes))
digits_fail most n bytes i inside digit passes =
    let range = digit_is (get_or bytes i 0) digit in
    rw (drop-cons bytes i 0) (digits_pass most n (get_or bytes i 0) (drop (suc i) bytes) range.0 range.1 (omega arith))

pub number_none : (most : ℕ) (bytes : List ℕ) → (length bytes ≡ 0) ⊎ (is_ascii_digit (get_or bytes 0 0) ≡ false) → number_at most bytes ≡ Err (length bytes)
unfolding number_at
number_none most [] h = refl
number_none most (c ∷ cs) (inl h) = absurd (omega arith)
number_none most (c ∷ cs) (inr h) =
    let other : eqb c 48 ≡ false = grind (arith, nat_tests) in
    rw (other, h) refl

pub number_zero : (most : ℕ) (bytes : List ℕ) → 0 < length bytes → get_or bytes 0 0 ≡ 48 → number_at most bytes ≡ Ok (0, drop 1 bytes)
unfolding number_at
number_zero most [] some h = absurd (omega arith)
number_zero most (c ∷ cs) some h =
    let same : eqb c 48 ≡ true = grind (arith, nat_tests) in
    rw same refl

pub number_digits : (most : ℕ) (bytes : List ℕ) → 0 < length bytes → is_ascii_digit (get_or bytes 0 0) ≡ true → (get_or bytes 0 0 ≡ 48 → ⊥) → number_at most bytes ≡ digits_after most 0 bytes
number_digits most [] some digit other = absurd (omega arith)
number_digits most (c ∷ cs) some digit other =
    let range = digit_is c digit in
    number_goes_on most c cs (omega arith) range.1

-- ---- with a sign or without one

pub integer_unsigned : (deepest highest : ℕ) (bytes : List ℕ) → (length bytes ≡ 0) ⊎ (get_or bytes 0 0 ≡ 45 → ⊥)
    → integer_at deepest highest bytes ≡ unsigned_at highest bytes
unfolding integer_at number_at
integer_unsigned deepest highest [] h = refl
integer_unsigned deepest highest (c ∷ cs) (inl h) = absurd (omega arith)
integer_unsigned deepest highest (c ∷ cs) (inr h) =
    let other : eqb c 45 ≡ false = grind (arith, nat_tests) in
    rw other refl

pub integer_signed : (deepest highest : ℕ) (bytes : List ℕ) → 0 < length bytes → get_or bytes 0 0 ≡ 45
    → integer_at deepest highest bytes ≡ below_zero_at deepest (drop 1 bytes)
unfolding integer_at
integer_signed deepest highest [] some h = absurd (omega arith)
integer_signed deepest highest (c ∷ cs) some h =
    let same : eqb c 45 ≡ true = grind (arith, nat_tests) in
    rw same refl

-- after a minus, and a number that is not 0
pub negative_is : (left n : ℕ) (rest : List ℕ) → 0 < n → negative left n rest ≡ Ok (negsuc (n - 1), rest)
negative_is left zero rest some = absurd (omega arith)
negative_is left (suc n) rest some =
    let back : suc n - 1 ≡ n = omega arith in
    rw back refl

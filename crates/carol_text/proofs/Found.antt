-- From what a reader gives to what its clauses say.
use Rattle.std.proofs.Common.{◌≡◌, ℕ, ◌^◌, ◌<◌, ◌≤◌, false, List, ◌++◌, Result, Ok, Err, sym, ◌∙◌, arith}
use Rattle.std.specs.Prelude.{decimal, ℤ, pos, negsuc, ◌≤ℤ◌, unsigned_abs, FitsSigned, IfOk, IsOkAnd}
use Rattle.std.specs.Fmt.{signed_decimal}
use Rattle.std.specs.Borrow.{Bor}
use Rattle.std.specs.Int.{w64, w128}
use Rattle.std.proofs.lemmas.Int.{ints}
use mir.Val.{to_z, of_z}
use Rattle.carol_text.specs.declared.bad_byte.BadByte.{BadByte}
use Rattle.carol_text.specs.Reading.{Reads, word_at}
use Rattle.carol_text.specs.Number.{starts_with_digit, number_at, integer_at, IsWithin}
use Rattle.carol_text.proofs.Words.{ok_parts, word_takes, word_again}
use Rattle.carol_text.proofs.Numbers.{number_takes, number_again, integer_takes, integer_again}

pub word_found : (r : Result (Bor (List ℕ)) BadByte) (word bytes : List ℕ) → Reads (λ x. x.now) r (word_at word bytes) → IfOk r (λ x. bytes ≡ word ++ x.now)
word_found (Ok x) word bytes read = word_takes word bytes x.now read
word_found (Err e) word bytes read = tt

pub word_only : (r : Result (Bor (List ℕ)) BadByte) (word bytes : List ℕ) → Reads (λ x. x.now) r (word_at word bytes)
    → (rest : List ℕ) → bytes ≡ word ++ rest → IsOkAnd r (λ x. x.now ≡ rest)
word_only (Ok x) word bytes read rest is =
    let again : word_at word bytes ≡ Ok rest = rw is (word_again word rest) in
    cc
word_only (Err e) word bytes read rest is =
    let again : word_at word bytes ≡ Ok rest = rw is (word_again word rest) in
    absurd cc

pub number_found : (r : Result (ℕ × Bor (List ℕ)) BadByte) (most : ℕ) (bytes : List ℕ) → most < 10 ^ 64 → Reads (λ x. (x.0, x.1.now)) r (number_at most bytes)
    → IfOk r (λ x. (x.0 ≤ most) × (bytes ≡ decimal x.0 ++ x.1.now))
number_found (Ok x) most bytes wide read = number_takes most bytes x.0 x.1.now wide read
number_found (Err e) most bytes wide read = tt

pub number_only : (r : Result (ℕ × Bor (List ℕ)) BadByte) (most : ℕ) (bytes : List ℕ) → most < 10 ^ 64 → Reads (λ x. (x.0, x.1.now)) r (number_at most bytes)
    → (n : ℕ) (rest : List ℕ) → n ≤ most → starts_with_digit rest ≡ false → bytes ≡ decimal n ++ rest → IsOkAnd r (λ x. (x.0 ≡ n) × (x.1.now ≡ rest))
number_only (Ok x) most bytes wide read n rest fits end is =
    let again : number_at most bytes ≡ Ok (n, rest) = rw is (number_again most n rest wide fits end) in
    ok_parts x.0 n x.1.now rest (sym read ∙ again)
number_only (Err e) most bytes wide read n rest fits end is =
    let again : number_at most bytes ≡ Ok (n, rest) = rw is (number_again most n rest wide fits end) in
    absurd cc

-- the bounds of a whole number, by its absolute value
within_is : (low high z : ℤ) → low ≤ℤ pos 0 → pos 0 ≤ℤ high → IsWithin (unsigned_abs low) (unsigned_abs high) z → (low ≤ℤ z) × (z ≤ℤ high)
within_is low high (pos n) below above fits = (omega (arith, ints), omega (arith, ints))
within_is low high (negsuc n) below above fits = (omega (arith, ints), omega (arith, ints))

is_within : (low high z : ℤ) → low ≤ℤ pos 0 → pos 0 ≤ℤ high → low ≤ℤ z → z ≤ℤ high → IsWithin (unsigned_abs low) (unsigned_abs high) z
is_within low high (pos n) below above from to = omega (arith, ints)
is_within low high (negsuc n) below above from to = omega (arith, ints)

pub integer_found : (r : Result (ℤ × Bor (List ℕ)) BadByte) (deepest highest : ℕ) (low high : ℤ) (bytes : List ℕ) → deepest ≡ unsigned_abs low → highest ≡ unsigned_abs high
    → deepest < 10 ^ 64 → highest < 10 ^ 64 → low ≤ℤ pos 0 → pos 0 ≤ℤ high → Reads (λ x. (x.0, x.1.now)) r (integer_at deepest highest bytes)
    → IfOk r (λ x. (low ≤ℤ x.0) × (x.0 ≤ℤ high) × (bytes ≡ signed_decimal x.0 ++ x.1.now))
integer_found (Ok x) deepest highest low high bytes deep_is high_is deep wide below above read =
    let t = integer_takes deepest highest bytes x.0 x.1.now deep wide read in
    let w = within_is low high x.0 below above (rw (← deep_is, ← high_is) t.0) in
    (w.0, w.1, t.1)
integer_found (Err e) deepest highest low high bytes deep_is high_is deep wide below above read = tt

pub integer_only : (r : Result (ℤ × Bor (List ℕ)) BadByte) (deepest highest : ℕ) (low high : ℤ) (bytes : List ℕ) → deepest ≡ unsigned_abs low → highest ≡ unsigned_abs high
    → deepest < 10 ^ 64 → highest < 10 ^ 64 → low ≤ℤ pos 0 → pos 0 ≤ℤ high → Reads (λ x. (x.0, x.1.now)) r (integer_at deepest highest bytes)
    → (z : ℤ) (rest : List ℕ) → low ≤ℤ z → z ≤ℤ high → starts_with_digit rest ≡ false → bytes ≡ signed_decimal z ++ rest → IsOkAnd r (λ x. (x.0 ≡ z) × (x.1.now ≡ rest))
integer_only (Ok x) deepest highest low high bytes deep_is high_is deep wide below above read z rest from to end is =
    let within : IsWithin deepest highest z = rw (deep_is, high_is) (is_within low high z below above from to) in
    let again : integer_at deepest highest bytes ≡ Ok (z, rest) = rw is (integer_again deepest highest z rest deep wide within end) in
    ok_parts x.0 z x.1.now rest (sym read ∙ again)
integer_only (Err e) deepest highest low high bytes deep_is high_is deep wide below above read z rest from to end is =
    let within : IsWithin deepest highest z = rw (deep_is, high_is) (is_within low high z below above from to) in
    let again : integer_at deepest highest bytes ≡ Ok (z, rest) = rw is (integer_again deepest highest z rest deep wide within end) in
    absurd cc

-- a number between two numbers of 64 bits, which the code has as numbers of 128 bits
pub narrowed : (low high a b v : ℤ) → FitsSigned w64 low → FitsSigned w64 high → a ≡ to_z w64 (of_z w64 low) → b ≡ to_z w64 (of_z w64 high)
    → to_z w128 (of_z w128 a) ≤ℤ v → v ≤ℤ to_z w128 (of_z w128 b)
    → (to_z w64 (of_z w64 (to_z w128 (of_z w128 v))) ≡ v) × (low ≤ℤ v) × (v ≤ℤ high)
narrowed low high a b v fits_low fits_high a-is b-is from to = (omega (arith, ints), omega (arith, ints), omega (arith, ints))

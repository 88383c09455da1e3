-- Reading goes byte by byte: what it gives of two texts that are alike up to and with a byte is alike, unless it goes beyond that byte.
use Rattle.std.proofs.Common.{◌≡◌, ℕ, ◌+◌, ◌-◌, ◌*◌, ◌^◌, ◌<◌, ◌≤◌, zero, suc, Bool, true, false, cond, eqb, leb, ◌⊎◌, inl, inr, List, [], ◌∷◌, ◌++◌, length, Result, Ok, Err, ℤ, pos, negsuc, refl, ◌∙◌, ap, arith, length-append}
use Rattle.std.specs.Char.{is_ascii_digit}
use Rattle.std.proofs.lemmas.Bool.Decides.{nat_tests}
use Rattle.std.proofs.lemmas.Fmt.{decimal_digit}
use Rattle.carol_text.specs.Number.{digits_after, integer_at, negative, number_at}
use Rattle.carol_text.specs.Reading.{Reading, ◌>>=◌, word_at}
use Rattle.carol_text.proofs.Laws.{number_takes}

-- no more bytes are left than there were
abbrev pub Shrinks : {X : Type 0} → (X → List ℕ) → ℕ → Result X ℕ → Type 0
Shrinks left n (Ok x) = length (left x) ≤ n
Shrinks left n (Err bad) = bad ≤ n

-- of two texts with the same front, a byte, and then these bytes: the first is read beyond the byte, or both are read alike
abbrev pub Alike : {X : Type 0} → (X → List ℕ) → (X → List ℕ → X) → ℕ → List ℕ → List ℕ → Result X ℕ → Result X ℕ → Type 0
Alike left put c cs ds (Ok x) s = (length (left x) ≤ length cs) ⊎ ((b : List ℕ) × (left x ≡ b ++ c ∷ cs) × (s ≡ Ok (put x (b ++ c ∷ ds))))
Alike left put c cs ds (Err bad) s = (bad ≤ length cs) ⊎ ((k : ℕ) × (bad ≡ k + suc (length cs)) × (s ≡ Err (k + suc (length ds))))

pub record IsOnline {X : Type 0} (left : X → List ℕ) (put : X → List ℕ → X) (read : List ℕ → Result X ℕ) : Type 0 where
  pub shrinks : (bytes : List ℕ) → Shrinks left (length bytes) (read bytes)
  pub alike : (b : List ℕ) (c : ℕ) (cs ds : List ℕ) → Alike left put c cs ds (read (b ++ c ∷ cs)) (read (b ++ c ∷ ds))

-- what is left behind a value, and where nothing is
abbrev pub rest_of : {X : Type 0} → X × List ℕ → List ℕ
rest_of x = x.1

abbrev pub with_rest : {X : Type 0} → X × List ℕ → List ℕ → X × List ℕ
with_rest x rest = (x.0, rest)

abbrev pub nothing : {X : Type 0} → X → List ℕ
nothing x = []

abbrev pub unchanged : {X : Type 0} → X → List ℕ → X
unchanged x rest = x

module _ {X Y : Type 0} (left : X → List ℕ) (put : X → List ℕ → X) (after : Y → List ℕ) (place : Y → List ℕ → Y) (f : X → Result Y ℕ) where
  shrinks_then : (n : ℕ) (r : Result X ℕ) → Shrinks left n r → ((x : X) → Shrinks after (length (left x)) (f x)) → Shrinks after n (r >>= f)
  shrinks_then n (Ok x) h more = both (f x) (more x)
    where
      both : (s : Result Y ℕ) → Shrinks after (length (left x)) s → Shrinks after n s
      both (Ok y) k = omega (arith, h, k)
      both (Err bad) k = omega (arith, h, k)
  shrinks_then n (Err bad) h more = h

  alike_then : (c : ℕ) (cs ds : List ℕ) (r s : Result X ℕ) → Alike left put c cs ds r s → ((x : X) → Shrinks after (length (left x)) (f x)) → ((x : X) (b : List ℕ) → left x ≡ b ++ c ∷ cs → Alike after place c cs ds (f x) (f (put x (b ++ c ∷ ds)))) → Alike after place c cs ds (r >>= f) (s >>= f)
  alike_then c cs ds (Ok x) s (inl past) shrinks more = beyond (f x) (shrinks x)
    where
      beyond : (t : Result Y ℕ) → Shrinks after (length (left x)) t → Alike after place c cs ds t (s >>= f)
      beyond (Ok y) h = inl (omega (arith, h, past))
      beyond (Err bad) h = inl (omega (arith, h, past))
  alike_then c cs ds (Ok x) s (inr (b, is, same)) shrinks more = rw same (more x b is)
  alike_then c cs ds (Err bad) s (inl past) shrinks more = inl past
  alike_then c cs ds (Err bad) s (inr (k, is, same)) shrinks more = inr (k, is, rw same refl)

-- ---- bytes that are bad

pub same_err : {X : Type 0} (m n : ℕ) → m ≡ n → ◌≡◌ {A = Result X ℕ} (Err m) (Err n)
same_err m n e = ap (λ (k : ℕ). Err k) e

-- bad at the byte, or before it
pub bad_alike : {X : Type 0} (left : X → List ℕ) (put : X → List ℕ → X) (b : List ℕ) (c : ℕ) (cs ds : List ℕ) → Alike left put c cs ds (Err (length (b ++ c ∷ cs))) (Err (length (b ++ c ∷ ds)))
bad_alike left put b c cs ds = inr (length b, length-append b (c ∷ cs), same_err (length (b ++ c ∷ ds)) (length b + suc (length ds)) (length-append b (c ∷ ds)))

-- a test
pub if_shrinks : {X : Type 0} (left : X → List ℕ) (t : Bool) (n : ℕ) (r s : Result X ℕ) → Shrinks left n r → Shrinks left n s → Shrinks left n (cond t r s)
if_shrinks left true n r s h k = h
if_shrinks left false n r s h k = k

pub if_alike : {X : Type 0} (left : X → List ℕ) (put : X → List ℕ → X) (t : Bool) (c : ℕ) (cs ds : List ℕ) (r s r' s' : Result X ℕ) → Alike left put c cs ds r r' → Alike left put c cs ds s s' → Alike left put c cs ds (cond t r s) (cond t r' s')
if_alike left put true c cs ds r s r' s' h k = h
if_alike left put false c cs ds r s r' s' h k = k

pub next_shrinks : {X : Type 0} (left : X → List ℕ) (n : ℕ) (r : Result X ℕ) → Shrinks left n r → Shrinks left (suc n) r
next_shrinks left n (Ok x) h = omega (arith, h)
next_shrinks left n (Err bad) h = omega (arith, h)

-- beyond the byte
pub beyond : {X : Type 0} (left : X → List ℕ) (put : X → List ℕ → X) (c : ℕ) (cs ds : List ℕ) (r s : Result X ℕ) → Shrinks left (length cs) r → Alike left put c cs ds r s
beyond left put c cs ds (Ok x) s h = inl h
beyond left put c cs ds (Err bad) s h = inl h

-- ---- a fixed word

pub word_shrinks : (word bytes : List ℕ) → Shrinks (λ (rest : List ℕ). rest) (length bytes) (word_at word bytes)
unfolding word_at
word_shrinks [] bytes = omega arith
word_shrinks (w ∷ ws) [] = omega arith
word_shrinks (w ∷ ws) (b ∷ bs) = if_shrinks (λ (rest : List ℕ). rest) (eqb b w) (suc (length bs)) (word_at ws bs) (Err (suc (length bs))) (next_shrinks (λ (rest : List ℕ). rest) (length bs) (word_at ws bs) (word_shrinks ws bs)) (omega arith)

word_alike : (word b : List ℕ) (c : ℕ) (cs ds : List ℕ) → Alike (λ (rest : List ℕ). rest) (λ x rest. rest) c cs ds (word_at word (b ++ c ∷ cs)) (word_at word (b ++ c ∷ ds))
unfolding word_at
word_alike [] b c cs ds = inr (b, refl, refl)
word_alike (w ∷ ws) [] c cs ds =
    if_alike (λ (rest : List ℕ). rest) (λ x rest. rest) (eqb c w) c cs ds (word_at ws cs) (Err (suc (length cs))) (word_at ws ds) (Err (suc (length ds)))
    (beyond (λ (rest : List ℕ). rest) (λ x rest. rest) c cs ds (word_at ws cs) (word_at ws ds) (word_shrinks ws cs)) (bad_alike (λ (rest : List ℕ). rest) (λ x rest. rest) [] c cs ds)
word_alike (w ∷ ws) (x ∷ xs) c cs ds =
    if_alike (λ (rest : List ℕ). rest) (λ x rest. rest) (eqb x w) c cs ds (word_at ws (xs ++ c ∷ cs)) (Err (suc (length (xs ++ c ∷ cs)))) (word_at ws (xs ++ c ∷ ds)) (Err (suc (length (xs ++ c ∷ ds))))
    (word_alike ws xs c cs ds) (bad_alike (λ (rest : List ℕ). rest) (λ x rest. rest) (x ∷ xs) c cs ds)

pub online_word : {Y : Type 0} (after : Y → List ℕ) (place : Y → List ℕ → Y) (word : List ℕ) (next : List ℕ → Result Y ℕ) → IsOnline after place next → IsOnline after place (λ bytes. word_at word bytes >>= next)
online_word after place word next online = record {
  shrinks = λ bytes. shrinks_then (λ (rest : List ℕ). rest) (λ x rest. rest) after place next (length bytes) (word_at word bytes) (word_shrinks word bytes) online.shrinks;
  alike = λ b c cs ds.
      alike_then (λ (rest : List ℕ). rest) (λ x rest. rest) after place next c cs ds (word_at word (b ++ c ∷ cs)) (word_at word (b ++ c ∷ ds)) (word_alike word b c cs ds) online.shrinks
      (λ x front is. rw is (online.alike front c cs ds));
}

pub online_then : {X Y : Type 0} (after : Y → List ℕ) (place : Y → List ℕ → Y) (one : List ℕ → Reading X) (next : X → List ℕ → Result Y ℕ) → IsOnline rest_of with_rest one → ((x : X) → IsOnline after place (next x)) → IsOnline after place (λ bytes. one bytes >>= λ x. next x.0 x.1)
online_then {X} after place one next first online = record {
  shrinks = λ bytes. shrinks_then rest_of with_rest after place (λ (x : X × List ℕ). next x.0 x.1) (length bytes) (one bytes) (first.shrinks bytes) (λ x. (online x.0).shrinks x.1);
  alike = λ b c cs ds.
      alike_then rest_of with_rest after place (λ (x : X × List ℕ). next x.0 x.1) c cs ds (one (b ++ c ∷ cs)) (one (b ++ c ∷ ds)) (first.alike b c cs ds) (λ x. (online x.0).shrinks x.1)
      (λ x front is. rw is ((online x.0).alike front c cs ds));
}

pub online_done : {Y : Type 0} (y : Y) → IsOnline rest_of with_rest (λ bytes. Ok (y, bytes))
online_done y = record { shrinks = λ bytes. omega arith; alike = λ b c cs ds. inr (b, refl, refl) }

-- ---- numbers

digits_shrinks : (most n : ℕ) (bytes : List ℕ) → Shrinks rest_of (length bytes) (digits_after most n bytes)
unfolding digits_after
digits_shrinks most n [] = omega arith
digits_shrinks most n (c ∷ cs) =
    if_shrinks rest_of (is_ascii_digit c) (suc (length cs)) (cond (leb (10 * n + (c - 48)) most) (digits_after most (10 * n + (c - 48)) cs) (Err (suc (length cs)))) (Ok (n, c ∷ cs))
    (if_shrinks rest_of (leb (10 * n + (c - 48)) most) (suc (length cs)) (digits_after most (10 * n + (c - 48)) cs) (Err (suc (length cs)))
    (next_shrinks rest_of (length cs) (digits_after most (10 * n + (c - 48)) cs) (digits_shrinks most (10 * n + (c - 48)) cs)) (omega arith)) (omega arith)

digits_alike : (most n : ℕ) (b : List ℕ) (c : ℕ) (cs ds : List ℕ) → Alike rest_of with_rest c cs ds (digits_after most n (b ++ c ∷ cs)) (digits_after most n (b ++ c ∷ ds))
unfolding digits_after
digits_alike most n [] c cs ds =
    if_alike rest_of with_rest (is_ascii_digit c) c cs ds (cond (leb (10 * n + (c - 48)) most) (digits_after most (10 * n + (c - 48)) cs) (Err (suc (length cs)))) (Ok (n, c ∷ cs)) (cond (leb (10 * n + (c - 48)) most) (digits_after most (10 * n + (c - 48)) ds) (Err (suc (length ds)))) (Ok (n, c ∷ ds))
    (if_alike rest_of with_rest (leb (10 * n + (c - 48)) most) c cs ds (digits_after most (10 * n + (c - 48)) cs) (Err (suc (length cs))) (digits_after most (10 * n + (c - 48)) ds) (Err (suc (length ds)))
    (beyond rest_of with_rest c cs ds (digits_after most (10 * n + (c - 48)) cs) (digits_after most (10 * n + (c - 48)) ds) (digits_shrinks most (10 * n + (c - 48)) cs)) (bad_alike rest_of with_rest [] c cs ds)) (inr ([], refl, refl))
digits_alike most n (x ∷ xs) c cs ds =
    if_alike rest_of with_rest (is_ascii_digit x) c cs ds (cond (leb (10 * n + (x - 48)) most) (digits_after most (10 * n + (x - 48)) (xs ++ c ∷ cs)) (Err (suc (length (xs ++ c ∷ cs))))) (Ok (n, x ∷ (xs ++ c ∷ cs))) (cond (leb (10 * n + (x - 48)) most) (digits_after most (10 * n + (x - 48)) (xs ++ c ∷ ds)) (Err (suc (length (xs ++ c ∷ ds))))) (Ok (n, x ∷ (xs ++ c ∷ ds)))
    (if_alike rest_of with_rest (leb (10 * n + (x - 48)) most) c cs ds (digits_after most (10 * n + (x - 48)) (xs ++ c ∷ cs)) (Err (suc (length (xs ++ c ∷ cs)))) (digits_after most (10 * n + (x - 48)) (xs ++ c ∷ ds)) (Err (suc (length (xs ++ c ∷ ds))))
    (digits_alike most (10 * n + (x - 48)) xs c cs ds) (bad_alike rest_of with_rest (x ∷ xs) c cs ds)) (inr (x ∷ xs, refl, refl))

number_shrinks : (most : ℕ) (bytes : List ℕ) → Shrinks rest_of (length bytes) (number_at most bytes)
unfolding number_at
number_shrinks most [] = omega arith
number_shrinks most (c ∷ cs) =
    if_shrinks rest_of (eqb c 48) (suc (length cs)) (Ok (0, cs)) (cond (is_ascii_digit c) (digits_after most 0 (c ∷ cs)) (Err (suc (length cs)))) (omega arith)
    (if_shrinks rest_of (is_ascii_digit c) (suc (length cs)) (digits_after most 0 (c ∷ cs)) (Err (suc (length cs))) (digits_shrinks most 0 (c ∷ cs)) (omega arith))

number_alike : (most : ℕ) (b : List ℕ) (c : ℕ) (cs ds : List ℕ) → Alike rest_of with_rest c cs ds (number_at most (b ++ c ∷ cs)) (number_at most (b ++ c ∷ ds))
unfolding number_at
number_alike most [] c cs ds =
    if_alike rest_of with_rest (eqb c 48) c cs ds (Ok (0, cs)) (cond (is_ascii_digit c) (digits_after most 0 (c ∷ cs)) (Err (suc (length cs)))) (Ok (0, ds)) (cond (is_ascii_digit c) (digits_after most 0 (c ∷ ds)) (Err (suc (length ds))))
    (inl (omega arith))
    (if_alike rest_of with_rest (is_ascii_digit c) c cs ds (digits_after most 0 (c ∷ cs)) (Err (suc (length cs))) (digits_after most 0 (c ∷ ds)) (Err (suc (length ds)))
    (digits_alike most 0 [] c cs ds) (bad_alike rest_of with_rest [] c cs ds))
number_alike most (x ∷ xs) c cs ds =
    if_alike rest_of with_rest (eqb x 48) c cs ds (Ok (0, xs ++ c ∷ cs)) (cond (is_ascii_digit x) (digits_after most 0 (x ∷ (xs ++ c ∷ cs))) (Err (suc (length (xs ++ c ∷ cs))))) (Ok (0, xs ++ c ∷ ds)) (cond (is_ascii_digit x) (digits_after most 0 (x ∷ (xs ++ c ∷ ds))) (Err (suc (length (xs ++ c ∷ ds)))))
    (inr (xs, refl, refl))
    (if_alike rest_of with_rest (is_ascii_digit x) c cs ds (digits_after most 0 (x ∷ (xs ++ c ∷ cs))) (Err (suc (length (xs ++ c ∷ cs)))) (digits_after most 0 (x ∷ (xs ++ c ∷ ds))) (Err (suc (length (xs ++ c ∷ ds))))
    (digits_alike most 0 (x ∷ xs) c cs ds) (bad_alike rest_of with_rest (x ∷ xs) c cs ds))

pub number_online : (most : ℕ) → IsOnline rest_of with_rest (number_at most)
number_online most = record { shrinks = number_shrinks most; alike = number_alike most }

-- ---- a number behind a minus

minus : ℕ → ℤ
minus zero = pos 0
minus (suc n) = negsuc n

below : ℕ → List ℕ → Reading ℤ
below deepest [] = Err 0
below deepest (c ∷ cs) = cond (eqb c 48) (Err (suc (length cs))) (number_at deepest (c ∷ cs) >>= λ x. Ok (minus x.0, x.1))

-- a number that does not begin with a zero is none
positive : (most c : ℕ) (cs : List ℕ) (n : ℕ) (rest : List ℕ) → most < 10 ^ 64 → eqb c 48 ≡ false → number_at most (c ∷ cs) ≡ Ok (n, rest) → 0 < n
positive most c cs zero rest wide other e =
    let spelled : c ∷ cs ≡ 48 ∷ rest = (number_takes most (c ∷ cs) 0 rest wide e).1 ∙ rw (decimal_digit 0 (omega arith)) refl
    in let same : c ≡ 48 = cc
    in absurd (let no : eqb c 48 ≡ false = other in grind (arith, nat_tests))
positive most c cs (suc n) rest wide other e = omega arith

below_is : (deepest : ℕ) → deepest < 10 ^ 64 → (bytes : List ℕ) → (number_at deepest bytes >>= λ x. negative (length bytes) x.0 x.1) ≡ below deepest bytes
unfolding below minus number_at
below_is deepest small [] = refl
below_is deepest small (c ∷ cs) = by_test (eqb c 48) refl
  where
    more : Reading ℕ
    more = cond (is_ascii_digit c) (digits_after deepest 0 (c ∷ cs)) (Err (suc (length cs)))

    alike : (r : Reading ℕ) → ((n : ℕ) (rest : List ℕ) → r ≡ Ok (n, rest) → 0 < n) → (r >>= λ x. negative (suc (length cs)) x.0 x.1) ≡ (r >>= λ x. Ok (minus x.0, x.1))
    alike (Ok (zero, rest)) some = absurd (let h = some 0 rest refl in omega arith)
    alike (Ok (suc n, rest)) some = refl
    alike (Err bad) some = refl

    by_test : (t : Bool) → eqb c 48 ≡ t → (cond t (Ok (0, cs)) more >>= λ x. negative (suc (length cs)) x.0 x.1) ≡ cond t (Err (suc (length cs))) (cond t (Ok (0, cs)) more >>= λ x. Ok (minus x.0, x.1))
    by_test true e = refl
    by_test false e = alike more (λ n rest is. positive deepest c cs n rest small e (rw e is))

below_shrinks : (deepest : ℕ) (bytes : List ℕ) → Shrinks rest_of (length bytes) (below deepest bytes)
unfolding below
below_shrinks deepest [] = omega arith
below_shrinks deepest (c ∷ cs) =
    if_shrinks rest_of (eqb c 48) (suc (length cs)) (Err (suc (length cs))) (number_at deepest (c ∷ cs) >>= λ x. Ok (minus x.0, x.1)) (omega arith)
    ((online_then rest_of with_rest (number_at deepest) (λ n rest. Ok (minus n, rest)) (number_online deepest) (λ n. online_done (minus n))).shrinks (c ∷ cs))

below_alike : (deepest : ℕ) (b : List ℕ) (c : ℕ) (cs ds : List ℕ) → Alike rest_of with_rest c cs ds (below deepest (b ++ c ∷ cs)) (below deepest (b ++ c ∷ ds))
unfolding below
below_alike deepest [] c cs ds =
    if_alike rest_of with_rest (eqb c 48) c cs ds (Err (suc (length cs))) (number_at deepest (c ∷ cs) >>= λ x. Ok (minus x.0, x.1)) (Err (suc (length ds))) (number_at deepest (c ∷ ds) >>= λ x. Ok (minus x.0, x.1))
    (bad_alike rest_of with_rest [] c cs ds)
    ((online_then rest_of with_rest (number_at deepest) (λ n rest. Ok (minus n, rest)) (number_online deepest) (λ n. online_done (minus n))).alike [] c cs ds)
below_alike deepest (x ∷ xs) c cs ds =
    if_alike rest_of with_rest (eqb x 48) c cs ds (Err (suc (length (xs ++ c ∷ cs)))) (number_at deepest (x ∷ (xs ++ c ∷ cs)) >>= λ x. Ok (minus x.0, x.1)) (Err (suc (length (xs ++ c ∷ ds)))) (number_at deepest (x ∷ (xs ++ c ∷ ds)) >>= λ x. Ok (minus x.0, x.1))
    (bad_alike rest_of with_rest (x ∷ xs) c cs ds)
    ((online_then rest_of with_rest (number_at deepest) (λ n rest. Ok (minus n, rest)) (number_online deepest) (λ n. online_done (minus n))).alike (x ∷ xs) c cs ds)

module _ (deepest highest : ℕ) (small : deepest < 10 ^ 64) where
  unsigned_online : IsOnline rest_of with_rest (λ bytes. number_at highest bytes >>= λ x. Ok (pos x.0, x.1))
  unsigned_online = online_then rest_of with_rest (number_at highest) (λ n rest. Ok (pos n, rest)) (number_online highest) (λ n. online_done (pos n))

  integer_shrinks : (bytes : List ℕ) → Shrinks rest_of (length bytes) (integer_at deepest highest bytes)
  unfolding integer_at
  integer_shrinks [] = omega arith
  integer_shrinks (c ∷ cs) =
      if_shrinks rest_of (eqb c 45) (suc (length cs)) (number_at deepest cs >>= λ x. negative (length cs) x.0 x.1) (number_at highest (c ∷ cs) >>= λ x. Ok (pos x.0, x.1))
      (rw (below_is deepest small cs) (next_shrinks rest_of (length cs) (below deepest cs) (below_shrinks deepest cs))) (unsigned_online.shrinks (c ∷ cs))

  integer_alike : (b : List ℕ) (c : ℕ) (cs ds : List ℕ) → Alike rest_of with_rest c cs ds (integer_at deepest highest (b ++ c ∷ cs)) (integer_at deepest highest (b ++ c ∷ ds))
  unfolding integer_at
  integer_alike [] c cs ds =
      if_alike rest_of with_rest (eqb c 45) c cs ds (number_at deepest cs >>= λ x. negative (length cs) x.0 x.1) (number_at highest (c ∷ cs) >>= λ x. Ok (pos x.0, x.1)) (number_at deepest ds >>= λ x. negative (length ds) x.0 x.1) (number_at highest (c ∷ ds) >>= λ x. Ok (pos x.0, x.1))
      (rw (below_is deepest small cs) (beyond rest_of with_rest c cs ds (below deepest cs) (number_at deepest ds >>= λ x. negative (length ds) x.0 x.1) (below_shrinks deepest cs))) (unsigned_online.alike [] c cs ds)
  integer_alike (x ∷ xs) c cs ds =
      if_alike rest_of with_rest (eqb x 45) c cs ds (number_at deepest (xs ++ c ∷ cs) >>= λ y. negative (length (xs ++ c ∷ cs)) y.0 y.1) (number_at highest (x ∷ (xs ++ c ∷ cs)) >>= λ y. Ok (pos y.0, y.1)) (number_at deepest (xs ++ c ∷ ds) >>= λ y. negative (length (xs ++ c ∷ ds)) y.0 y.1) (number_at highest (x ∷ (xs ++ c ∷ ds)) >>= λ y. Ok (pos y.0, y.1))
      (rw (below_is deepest small (xs ++ c ∷ cs), below_is deepest small (xs ++ c ∷ ds)) (below_alike deepest xs c cs ds)) (unsigned_online.alike (x ∷ xs) c cs ds)

  pub integer_online : IsOnline rest_of with_rest (integer_at deepest highest)
  integer_online = record { shrinks = integer_shrinks; alike = integer_alike }

-- ---- items

pub map_online : {X Y : Type 0} (f : X → Y) (read : List ℕ → Result X ℕ) → IsOnline nothing unchanged read → IsOnline nothing unchanged (λ bytes. read bytes >>= λ x. Ok (f x))
map_online f read online = record {
  shrinks = λ bytes. shrinks_then nothing unchanged nothing unchanged (λ x. Ok (f x)) (length bytes) (read bytes) (online.shrinks bytes) (λ x. omega arith);
  alike = λ b c cs ds. alike_then nothing unchanged nothing unchanged (λ x. Ok (f x)) c cs ds (read (b ++ c ∷ cs)) (read (b ++ c ∷ ds)) (online.alike b c cs ds) (λ x. omega arith) (λ x front is. inl (omega arith));
}

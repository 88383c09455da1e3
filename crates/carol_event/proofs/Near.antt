-- A line is bad near its front, if it is.
use Rattle.std.proofs.Common.{◌≡◌, ℕ, ◌+◌, ◌-◌, ◌*◌, ◌^◌, ◌<◌, ◌≤◌, zero, suc, Bool, true, false, cond, eqb, leb, List, [], ◌∷◌, length, Result, Ok, Err, ℤ, pos, refl, arith}
use Rattle.std.specs.Prelude.{codes, slice_index}
use Rattle.std.specs.Char.{is_ascii_digit}
use Rattle.std.proofs.Math.Nat.{pow-suc}
use Rattle.std.proofs.lemmas.Bool.Decides.{nat_tests}
use Rattle.carol_text.specs.Number.{digits_after, integer_at, negative, number_at}
use Rattle.carol_text.specs.Reading.{Reading, ◌>>=◌, word_at}
use Rattle.carol_event.specs.declared.event.Cause.{Cause}
use Rattle.carol_event.specs.declared.event.Event.{Event}
use Rattle.carol_event.specs.declared.event.Event.TheVariants.{Grant, Query, Issue, Release, Return, Refuse, Deliver, Cut, Join}
use Rattle.carol_event.specs.declared.kind.Kind.{Kind}
use Rattle.carol_event.specs.declared.kind.Kind.TheVariants as kind
use Rattle.carol_event.specs.Kinds.{kind_of, word_of}
use Rattle.carol_event.specs.Lines.{at_end, atom_at, barred_at, behind_at, both_at, cause_at, event_at, fields_at, items_at, number32_at, pair_at, value_at, wide_at}

-- no more than so many bytes lie between the front and what is left, or the first bad byte
Near : {X : Type 0} → (X → List ℕ) → ℕ → List ℕ → Result X ℕ → Type 0
Near left most bytes (Ok x) = (length (left x) ≤ length bytes) × (length bytes ≤ length (left x) + most)
Near left most bytes (Err bad) = (bad ≤ length bytes) × (length bytes ≤ bad + most)

near_wider : {X : Type 0} (left : X → List ℕ) (m n : ℕ) (bytes : List ℕ) (r : Result X ℕ) → m ≤ n → Near left m bytes r → Near left n bytes r
unfolding Near
near_wider left m n bytes (Ok x) le h = (h.0, omega (arith, h.1))
near_wider left m n bytes (Err bad) le h = (h.0, omega (arith, h.1))

-- behind one byte
near_next : {X : Type 0} (left : X → List ℕ) (m c : ℕ) (cs : List ℕ) (r : Result X ℕ) → Near left m cs r → Near left (suc m) (c ∷ cs) r
unfolding Near
near_next left m c cs (Ok x) h = (omega (arith, h.0), omega (arith, h.1))
near_next left m c cs (Err bad) h = (omega (arith, h.0), omega (arith, h.1))

-- after two steps
near_bind : {X Y : Type 0} (left : X → List ℕ) (after : Y → List ℕ) (m n : ℕ) (bytes : List ℕ) (r : Result X ℕ) (f : X → Result Y ℕ) → Near left m bytes r → ((x : X) → Near after n (left x) (f x)) → Near after (m + n) bytes (r >>= f)
unfolding Near
near_bind {X} {Y} left after m n bytes (Ok x) f h more = both (f x) (more x)
  where
    both : (r : Result Y ℕ) → Near after n (left x) r → Near after (m + n) bytes r
    both (Ok y) k = (omega (arith, h.0, k.0), omega (arith, h.1, k.1))
    both (Err bad) k = (omega (arith, h.0, k.0), omega (arith, h.1, k.1))
near_bind left after m n bytes (Err bad) f h more = (h.0, omega (arith, h.1))

-- one of two
near_if : {X : Type 0} (left : X → List ℕ) (m : ℕ) (bytes : List ℕ) (b : Bool) (r s : Result X ℕ) → (b ≡ true → Near left m bytes r) → (b ≡ false → Near left m bytes s) → Near left m bytes (cond b r s)
near_if left m bytes true r s h k = h refl
near_if left m bytes false r s h k = k refl

word_near : (word bytes : List ℕ) → Near (λ rest. rest) (length word) bytes (word_at word bytes)
unfolding Near word_at
word_near [] bytes = (omega arith, omega arith)
word_near (w ∷ ws) [] = (omega arith, omega arith)
word_near (w ∷ ws) (b ∷ bs) =
    near_if (λ (rest : List ℕ). rest) (suc (length ws)) (b ∷ bs) (eqb b w) (word_at ws bs) (Err (suc (length bs)))
    (λ e. near_next (λ (rest : List ℕ). rest) (length ws) b bs (word_at ws bs) (word_near ws bs)) (λ e. (omega arith, omega arith))

-- what is left behind a value
after : {X : Type 0} → X × List ℕ → List ℕ
after x = x.1

-- as many digits as the greatest number has
digits_near : (k most n : ℕ) (bytes : List ℕ) → most < 10 ^ k * n → Near after k bytes (digits_after most n bytes)
unfolding Near digits_after after
digits_near k most n [] few = (omega arith, omega arith)
digits_near zero most n (c ∷ cs) few =
    near_if after 0 (c ∷ cs) (is_ascii_digit c) (cond (leb (10 * n + (c - 48)) most) (digits_after most (10 * n + (c - 48)) cs) (Err (suc (length cs)))) (Ok (n, c ∷ cs))
    (λ e. near_if after 0 (c ∷ cs) (leb (10 * n + (c - 48)) most) (digits_after most (10 * n + (c - 48)) cs) (Err (suc (length cs)))
    (λ fits. absurd (let low : 10 * n + (c - 48) ≤ most = grind (arith, nat_tests) in omega arith)) (λ e. (omega arith, omega arith)))
    (λ e. (omega arith, omega arith))
digits_near (suc k) most n (c ∷ cs) few =
    let fewer : most < 10 ^ k * 10 * n = rw (← pow-suc 10 k) few
    in near_if after (suc k) (c ∷ cs) (is_ascii_digit c) (cond (leb (10 * n + (c - 48)) most) (digits_after most (10 * n + (c - 48)) cs) (Err (suc (length cs)))) (Ok (n, c ∷ cs))
    (λ e. near_if after (suc k) (c ∷ cs) (leb (10 * n + (c - 48)) most) (digits_after most (10 * n + (c - 48)) cs) (Err (suc (length cs)))
    (λ fits. near_next after k c cs (digits_after most (10 * n + (c - 48)) cs) (digits_near k most (10 * n + (c - 48)) cs (omega arith))) (λ e. (omega arith, omega arith)))
    (λ e. (omega arith, omega arith))

number_near : (k most : ℕ) (bytes : List ℕ) → most < 10 ^ k → Near after (suc k) bytes (number_at most bytes)
unfolding Near number_at digits_after after
number_near k most [] few = (omega arith, omega arith)
number_near k most (c ∷ cs) few =
    near_if after (suc k) (c ∷ cs) (eqb c 48) (Ok (0, cs)) (cond (is_ascii_digit c) (digits_after most 0 (c ∷ cs)) (Err (suc (length cs))))
    (λ e. (omega arith, omega arith))
    (λ other. near_if after (suc k) (c ∷ cs) (is_ascii_digit c) (digits_after most 0 (c ∷ cs)) (Err (suc (length cs)))
    (λ digit. rw digit (near_if after (suc k) (c ∷ cs) (leb (10 * 0 + (c - 48)) most) (digits_after most (10 * 0 + (c - 48)) cs) (Err (suc (length cs)))
    (λ fits. near_next after k c cs (digits_after most (10 * 0 + (c - 48)) cs)
    (digits_near k most (10 * 0 + (c - 48)) cs (first_digit (c - 48) (let some : 0 < c - 48 = grind (arith, nat_tests) in some))))
    (λ e. (omega arith, omega arith))))
    (λ e. (omega arith, omega arith)))
  where
    first_digit : (d : ℕ) → 0 < d → most < 10 ^ k * (10 * 0 + d)
    first_digit zero some = absurd (omega arith)
    first_digit (suc d) some = omega arith

integer_near : (k deepest highest : ℕ) (bytes : List ℕ) → deepest < 10 ^ k → highest < 10 ^ k → Near after (suc (suc k)) bytes (integer_at deepest highest bytes)
unfolding Near integer_at after
integer_near k deepest highest [] deep high = (omega arith, omega arith)
integer_near k deepest highest (c ∷ cs) deep high =
    near_if after (suc (suc k)) (c ∷ cs) (eqb c 45) (number_at deepest cs >>= λ x. negative (length cs) x.0 x.1) (number_at highest (c ∷ cs) >>= λ x. Ok (pos x.0, x.1))
    (λ e. below (number_at deepest cs) (number_near k deepest cs deep)) (λ e. above (number_at highest (c ∷ cs)) (number_near k highest (c ∷ cs) high))
  where
    sized : (n : ℕ) (rest : List ℕ) → (length rest ≤ length cs) × (length cs ≤ length rest + suc k) → Near after (suc (suc k)) (c ∷ cs) (negative (length cs) n rest)
    sized zero rest h = (omega arith, omega arith)
    sized (suc n) rest h = (omega (arith, h.0), omega (arith, h.1))

    below : (r : Reading ℕ) → Near after (suc k) cs r → Near after (suc (suc k)) (c ∷ cs) (r >>= λ x. negative (length cs) x.0 x.1)
    below (Ok x) h = sized x.0 x.1 h
    below (Err bad) h = (omega (arith, h.0), omega (arith, h.1))

    above : (r : Reading ℕ) → Near after (suc k) (c ∷ cs) r → Near after (suc (suc k)) (c ∷ cs) (r >>= λ x. Ok (pos x.0, x.1))
    above (Ok x) h = (omega (arith, h.0), omega (arith, h.1))
    above (Err bad) h = (omega (arith, h.0), omega (arith, h.1))

number32_near : (bytes : List ℕ) → Near after 11 bytes (number32_at bytes)
number32_near bytes = number_near 10 4_294_967_295 bytes (omega arith)

value_near : (bytes : List ℕ) → Near after 21 bytes (value_at bytes)
value_near bytes = integer_near 19 9_223_372_036_854_775_808 9_223_372_036_854_775_807 bytes (omega arith) (omega arith)

wide_near : (bytes : List ℕ) → Near after 41 bytes (wide_at bytes)
wide_near bytes =
    integer_near 39 170_141_183_460_469_231_731_687_303_715_884_105_728 170_141_183_460_469_231_731_687_303_715_884_105_727 bytes (omega arith) (omega arith)

-- two parts, with a word between them
both_near : {X Y : Type 0} (m n : ℕ) (one : List ℕ → Reading X) (word : List ℕ) (two : List ℕ → Reading Y) → ((bytes : List ℕ) → Near after m bytes (one bytes)) → ((bytes : List ℕ) → Near after n bytes (two bytes)) → (bytes : List ℕ) → Near after (m + (length word + (n + 0))) bytes (both_at one word two bytes)
unfolding Near after
both_near m n one word two first second bytes =
    near_bind after after m (length word + (n + 0)) bytes (one bytes) (λ x. word_at word x.1 >>= λ rest. two rest >>= λ y. Ok ((x.0, y.0), y.1)) (first bytes)
    (λ x. near_bind (λ (rest : List ℕ). rest) after (length word) (n + 0) x.1 (word_at word x.1) (λ rest. two rest >>= λ y. Ok ((x.0, y.0), y.1)) (word_near word x.1)
    (λ rest. near_bind after after n 0 rest (two rest) (λ y. Ok ((x.0, y.0), y.1)) (second rest) (λ y. (omega arith, omega arith))))

pair_near : (bytes : List ℕ) → Near after 23 bytes (pair_at bytes)
pair_near bytes = both_near 11 11 number32_at (codes " ") number32_at number32_near number32_near bytes

atom_near : (bytes : List ℕ) → Near after 33 bytes (atom_at bytes)
unfolding Near after
atom_near bytes =
    near_bind after after 33 0 bytes (both_at number32_at (codes ":") value_at bytes) (λ x. Ok (record { cell = x.0.0; value = x.0.1 }, x.1))
    (both_near 11 21 number32_at (codes ":") value_at number32_near value_near bytes) (λ x. (omega arith, omega arith))

cause_near : (bytes : List ℕ) → Near after 30 bytes (cause_at bytes)
unfolding Near after
cause_near bytes =
    near_if after 30 bytes (eqb (slice_index bytes 1) 101) (behind_at bytes) (barred_at bytes)
    (λ e. near_wider after 18 30 bytes (behind_at bytes) (omega arith)
    (near_bind (λ (rest : List ℕ). rest) after 7 11 bytes (word_at (codes "behind ") bytes) _ (word_near (codes "behind ") bytes)
    (λ rest. near_bind after after 11 0 rest (number32_at rest) _ (number32_near rest) (λ x. (omega arith, omega arith)))))
    (λ e. near_bind (λ (rest : List ℕ). rest) after 7 23 bytes (word_at (codes "barred ") bytes) _ (word_near (codes "barred ") bytes)
    (λ rest. near_bind after after 23 0 rest (pair_at rest) _ (pair_near rest) (λ x. (omega arith, omega arith))))

-- nothing is left behind a whole line
none : {X : Type 0} → X → List ℕ
none x = []

end_near : {X : Type 0} (x : X) (rest : List ℕ) → Near none 0 rest (at_end x rest)
unfolding Near none
end_near x [] = (omega arith, omega arith)
end_near x (c ∷ cs) = (omega arith, omega arith)

items_near : {X : Type 0} (m n : ℕ) (item : List ℕ → Reading X) → ((bytes : List ℕ) → Near after m bytes (item bytes)) → (bytes : List ℕ) → Near none (n * (m + 1) + 1) bytes (items_at item n bytes)
unfolding Near items_at after none
items_near m n item each [] = (omega arith, omega arith)
items_near m zero item each (c ∷ cs) =
    near_wider none (1 + 0) (0 * (m + 1) + 1) (c ∷ cs) (word_at (codes " ") (c ∷ cs) >>= λ rest. Err (length rest)) (omega arith)
    (near_bind (λ (rest : List ℕ). rest) none 1 0 (c ∷ cs) (word_at (codes " ") (c ∷ cs)) (λ rest. Err (length rest)) (word_near (codes " ") (c ∷ cs)) (λ rest. (omega arith, omega arith)))
items_near m (suc n) item each (c ∷ cs) =
    near_wider none (1 + (m + ((n * (m + 1) + 1) + 0))) (suc n * (m + 1) + 1) (c ∷ cs) (items_at item (suc n) (c ∷ cs)) (omega arith)
    (near_bind (λ (rest : List ℕ). rest) none 1 (m + ((n * (m + 1) + 1) + 0)) (c ∷ cs) (word_at (codes " ") (c ∷ cs)) (λ rest. item rest >>= λ x. items_at item n x.1 >>= λ more. Ok (x.0 ∷ more)) (word_near (codes " ") (c ∷ cs))
    (λ rest. near_bind after none m ((n * (m + 1) + 1) + 0) rest (item rest) (λ x. items_at item n x.1 >>= λ more. Ok (x.0 ∷ more)) (each rest)
    (λ x. near_bind none none (n * (m + 1) + 1) 0 x.1 (items_at item n x.1) (λ more. Ok (x.0 ∷ more)) (items_near m n item each x.1) (λ more. (omega arith, omega arith)))))

-- one part, and the end of the line
ended_near : {X : Type 0} (m : ℕ) (read : List ℕ → Reading X) (make : X → Event) → ((bytes : List ℕ) → Near after m bytes (read bytes)) → m ≤ 900 → (bytes : List ℕ) → Near none 900 bytes (read bytes >>= λ x. at_end (make x.0) x.1)
unfolding after
ended_near m read make near few bytes =
    near_wider none (m + 0) 900 bytes (read bytes >>= λ x. at_end (make x.0) x.1) (omega arith)
    (near_bind after none m 0 bytes (read bytes) (λ x. at_end (make x.0) x.1) (near bytes) (λ x. end_near (make x.0) x.1))

-- a pair, and items up to the end of the line
listed_near : {X : Type 0} (m : ℕ) (read : List ℕ → Reading X) (make : ℕ → ℕ → List X → Event) → ((bytes : List ℕ) → Near after m bytes (read bytes)) → m ≤ 40 → (bytes : List ℕ) → Near none 900 bytes (pair_at bytes >>= λ x. items_at read 16 x.1 >>= λ xs. Ok (make x.0.0 x.0.1 xs))
unfolding Near after none
listed_near m read make near few bytes =
    near_wider none (23 + ((16 * (m + 1) + 1) + 0)) 900 bytes (pair_at bytes >>= λ x. items_at read 16 x.1 >>= λ xs. Ok (make x.0.0 x.0.1 xs)) (omega arith)
    (near_bind after none 23 ((16 * (m + 1) + 1) + 0) bytes (pair_at bytes) (λ x. items_at read 16 x.1 >>= λ xs. Ok (make x.0.0 x.0.1 xs)) (pair_near bytes)
    (λ x. near_bind none none (16 * (m + 1) + 1) 0 x.1 (items_at read 16 x.1) (λ xs. Ok (make x.0.0 x.0.1 xs)) (items_near m 16 read near x.1) (λ xs. (omega arith, omega arith))))

fields_near : (k : Kind) (bytes : List ℕ) → Near none 900 bytes (fields_at k bytes)
unfolding fields_at
fields_near kind.Grant bytes = ended_near 23 pair_at (λ (p : ℕ × ℕ). Grant p.0 p.1) pair_near (omega arith) bytes
fields_near kind.Query bytes = listed_near 21 value_at Query value_near (omega arith) bytes
fields_near kind.Issue bytes = listed_near 33 atom_at Issue atom_near (omega arith) bytes
fields_near kind.Release bytes = ended_near 11 number32_at Release number32_near (omega arith) bytes
fields_near kind.Return bytes =
    ended_near 53 (both_at number32_at (codes " ") wide_at) (λ (p : ℕ × ℤ). Return p.0 p.1) (both_near 11 41 number32_at (codes " ") wide_at number32_near wide_near) (omega arith) bytes
fields_near kind.Refuse bytes =
    ended_near 42 (both_at number32_at (codes " ") cause_at) (λ (p : ℕ × Cause). Refuse p.0 p.1) (both_near 11 30 number32_at (codes " ") cause_at number32_near cause_near) (omega arith) bytes
fields_near kind.Deliver bytes =
    ended_near 35 (both_at number32_at (codes " ") pair_at) (λ (p : ℕ × (ℕ × ℕ)). Deliver p.0 p.1.0 p.1.1) (both_near 11 23 number32_at (codes " ") pair_at number32_near pair_near) (omega arith) bytes
fields_near kind.Cut bytes = ended_near 23 pair_at (λ (p : ℕ × ℕ). Cut p.0 p.1) pair_near (omega arith) bytes
fields_near kind.Join bytes = ended_near 23 pair_at (λ (p : ℕ × ℕ). Join p.0 p.1) pair_near (omega arith) bytes

length-word_of : (k : Kind) → length (word_of k) ≤ 8
unfolding word_of
length-word_of kind.Grant = omega arith
length-word_of kind.Query = omega arith
length-word_of kind.Issue = omega arith
length-word_of kind.Release = omega arith
length-word_of kind.Return = omega arith
length-word_of kind.Refuse = omega arith
length-word_of kind.Deliver = omega arith
length-word_of kind.Cut = omega arith
length-word_of kind.Join = omega arith

event_near : (line : List ℕ) → Near none 908 line (event_at line)
unfolding event_at
event_near line =
    near_bind (λ (rest : List ℕ). rest) none 8 900 line (word_at (word_of (kind_of line)) line) (λ rest. fields_at (kind_of line) rest)
    (near_wider (λ (rest : List ℕ). rest) (length (word_of (kind_of line))) 8 line (word_at (word_of (kind_of line)) line) (length-word_of (kind_of line)) (word_near (word_of (kind_of line)) line))
    (λ rest. fields_near (kind_of line) rest)

-- where a line is bad
pub bad_near : (line : List ℕ) (bad : ℕ) → event_at line ≡ Err bad → (bad ≤ length line) × (length line ≤ bad + 1000)
unfolding Near
bad_near line bad e =
    let near : Near {X = Event} none 908 line (Err bad) = rw e at (event_near line)
    in (near.0, omega (arith, near.1))

-- an event's line is short
pub event_short : (line : List ℕ) (event : Event) → event_at line ≡ Ok event → length line ≤ 908
unfolding Near none
event_short line event e =
    let near : Near {X = Event} none 908 line (Ok event) = rw e at (event_near line)
    in omega (arith, near.1)

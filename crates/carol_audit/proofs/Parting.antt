-- The line in which two texts part is the first that differs.
use Rattle.std.proofs.Common.{◌≡◌, ◌≢◌, ℕ, zero, suc, ◌+◌, ◌==◌, Bool, true, false, List, [], ◌∷◌, take, refl, sym, ◌∙◌, ap, arith}
use Rattle.std.specs.Prelude.{Option, Some, None, MatchOption, slice_get, if◌then◌else◌}
use Rattle.std.proofs.lemmas.Bool.{eqb-true, eq-eqb}
use Rattle.carol_audit.specs.Lines.{IsFirstFalseLine, in_front, lines, next_number, parting}

clash : true ≡ false → ⊥
clash e = cc

-- so many lines are the same, and the next one differs
record DifferAt (before : ℕ) (L M : List (List ℕ)) : Type 0 where
  same : take before L ≡ take before M
  differ : slice_get L before ≢ slice_get M before

-- no line is without a byte
abbrev StartsSome : List (List ℕ) → Type 0
StartsSome [] = Unit {0}
StartsSome (line ∷ more) = line ≢ []

in_front_some : (b : ℕ) (L : List (List ℕ)) → StartsSome (in_front b L)
in_front_some b [] = λ e. cc
in_front_some b (line ∷ more) = λ e. cc

lines_some : (bytes : List ℕ) → StartsSome (lines bytes)
lines_some [] = tt
lines_some (b ∷ bytes) = at (b == 10)
  where
    at : (t : Bool) → StartsSome (if t then (10 ∷ []) ∷ lines bytes else in_front b (lines bytes))
    at true = λ e. cc
    at false = in_front_some b (lines bytes)

-- the first line of bytes begins with the first one
record Begins (b : ℕ) (L : List (List ℕ)) : Type 0 where
  line : List ℕ
  more : List (List ℕ)
  are : L ≡ (b ∷ line) ∷ more

in_front_begins : (b : ℕ) (L : List (List ℕ)) → Begins b (in_front b L)
in_front_begins b [] = record { line = []; more = []; are = refl }
in_front_begins b (line ∷ more) = record { line = line; more = more; are = refl }

lines_begin : (b : ℕ) (bytes : List ℕ) → Begins b (lines (b ∷ bytes))
lines_begin b bytes = at (b == 10) refl
  where
    at : (t : Bool) → (b == 10) ≡ t → Begins b (if t then (10 ∷ []) ∷ lines bytes else in_front b (lines bytes))
    at true is = record { line = []; more = lines bytes; are = rw (eqb-true b 10 is) refl }
    at false is = in_front_begins b (lines bytes)

-- one more byte in front of both
front_differs : (b before : ℕ) (L M : List (List ℕ)) → StartsSome L → StartsSome M → DifferAt before L M → DifferAt before (in_front b L) (in_front b M)
front_differs b before [] [] some also h = absurd (h.differ refl)
front_differs b zero [] (m ∷ M) some also h = record { same = refl; differ = λ e. also (let x : Some (b ∷ []) ≡ Some (b ∷ m) = e in cc) }
front_differs b zero (l ∷ L) [] some also h = record { same = refl; differ = λ e. some (let x : Some (b ∷ l) ≡ Some (b ∷ []) = e in cc) }
front_differs b zero (l ∷ L) (m ∷ M) some also h = record { same = refl; differ = λ e. h.differ (let x : Some (b ∷ l) ≡ Some (b ∷ m) = e in cc) }
front_differs b (suc before) [] (m ∷ M) some also h = absurd (let x : [] ≡ m ∷ take before M = h.same in cc)
front_differs b (suc before) (l ∷ L) [] some also h = absurd (let x : l ∷ take before L ≡ [] = h.same in cc)
front_differs b (suc before) (l ∷ L) (m ∷ M) some also h =
    let x : l ∷ take before L ≡ m ∷ take before M = h.same
    in let first : l ≡ m = cc
    in let more : take before L ≡ take before M = cc
    in record { same = rw (first, more) refl; differ = h.differ }

-- the texts part in this line, if their first lines have this number
record Parts (number : ℕ) (right text : List ℕ) (found : ℕ) : Type 0 where
  before : ℕ
  counted : found ≡ number + before
  at : DifferAt before (lines right) (lines text)

abbrev Tells : ℕ → List ℕ → List ℕ → Option ℕ → Type 0
Tells number right text found = MatchOption found (right ≡ text) (Parts number right text)

-- behind a line feed
feed_more : (number : ℕ) (right text : List ℕ) (found : Option ℕ) → Tells (number + 1) right text found → Tells number (10 ∷ right) (10 ∷ text) found
feed_more number right text None h = rw h refl
feed_more number right text (Some found) h = record {
  before = suc h.before;
  counted = omega (arith, h.counted);
  at = record { same = ap (λ (L : List (List ℕ)). (10 ∷ []) ∷ L) h.at.same; differ = h.at.differ };
}

-- behind another byte
byte_more : (b number : ℕ) (right text : List ℕ) (found : Option ℕ) → (b == 10) ≡ false → Tells number right text found → Tells number (b ∷ right) (b ∷ text) found
byte_more b number right text None other h = rw h refl
byte_more b number right text (Some found) other h = record {
  before = h.before;
  counted = h.counted;
  at = rw other (front_differs b h.before (lines right) (lines text) (lines_some right) (lines_some text) h.at);
}

parts : (number : ℕ) (right text : List ℕ) → Tells number right text (parting number right text)
parts number [] [] = refl
parts number [] (o ∷ text) =
    let begin = lines_begin o text
    in record { before = 0; counted = omega arith; at = record { same = refl; differ = λ e. absurd (let x : None ≡ Some (o ∷ begin.line) = e ∙ ap (λ (L : List (List ℕ)). slice_get L 0) begin.are in cc) } }
parts number (b ∷ right) [] =
    let begin = lines_begin b right
    in record { before = 0; counted = omega arith; at = record { same = refl; differ = λ e. absurd (let x : None ≡ Some (b ∷ begin.line) = sym e ∙ ap (λ (L : List (List ℕ)). slice_get L 0) begin.are in cc) } }
parts number (b ∷ right) (o ∷ text) = at (b == o) refl (λ n. parts n right text)
  where
    differ : (b == o) ≡ false → Parts number (b ∷ right) (o ∷ text) number
    differ is =
        let one = lines_begin b right
        in let other = lines_begin o text
        in record {
          before = 0;
          counted = omega arith;
          at = record {
            same = refl;
            differ = λ e. clash (sym (eq-eqb b o
                (let x : Some (b ∷ one.line) ≡ Some (o ∷ other.line) = sym (ap (λ (L : List (List ℕ)). slice_get L 0) one.are) ∙ e ∙ ap (λ (L : List (List ℕ)). slice_get L 0) other.are in cc)) ∙ is);
          };
        }

    same : (t : Bool) → (b == 10) ≡ t → b ≡ o → ((n : ℕ) → Tells n right text (parting n right text)) → Tells number (b ∷ right) (o ∷ text) (parting (if t then number + 1 else number) right text)
    same true is equal more =
        let feed : b ≡ 10 = eqb-true b 10 is
        in rw (← equal, feed) (feed_more number right text (parting (number + 1) right text) (more (number + 1)))
    same false is equal more = rw (← equal) (byte_more b number right text (parting number right text) is (more number))

    at : (t : Bool) → (b == o) ≡ t → ((n : ℕ) → Tells n right text (parting n right text)) → Tells number (b ∷ right) (o ∷ text) (if t then parting (next_number number b) right text else Some number)
    at true is more = same (b == 10) refl (eqb-true b o is) more
    at false is more = differ is

-- the line is the first that differs, and where there is none the texts are equal
pub parting_tells : (right text : List ℕ) (found : Option ℕ) → found ≡ parting 1 right text → MatchOption found (right ≡ text) (IsFirstFalseLine right text)
parting_tells right text found is = at (parting 1 right text) is (parts 1 right text)
  where
    at : (r : Option ℕ) → found ≡ r → Tells 1 right text r → MatchOption found (right ≡ text) (IsFirstFalseLine right text)
    at None e h = rw e h
    at (Some n) e h = rw e (record { before = h.before; counted = omega (arith, h.counted); same = h.at.same; differ = h.at.differ })

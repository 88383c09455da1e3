-- A word that is found as a name is one: it is a run of word bytes, not too long, and no keyword.
use Rattle.std.proofs.Common.{◌≡◌, ℕ, ◌≤◌, Bool, true, false, cond, ◌||◌, List, [], ◌∷◌, length, map, refl, sym, subst, inl, inr, ◌∙◌, ap, arith}
use Rattle.std.specs.Prelude.{Option, Some, None, Result, Ok, Err, nat_lt, take, take_while}
use Rattle.std.specs.List.{list_all, list_any}
use Rattle.std.specs.Str.{bytes_eq}
use Rattle.std.specs.Char.{is_ascii_digit}
use Rattle.std.proofs.lemmas.Bool.{cases_Bool, both_ways, and_parts}
use Rattle.std.proofs.lemmas.Bool.Decides.{nat_tests}
use Rattle.std.proofs.lemmas.Slice.Eq.{bytes_eq-Decides}
use Rattle.std.proofs.lemmas.List.Folds.{length-prefix_len}
use Rattle.std.proofs.lemmas.List.Sums.{take_while-cons}
use Rattle.carol_text.specs.Number.{number_at, starts_with_digit}
use Rattle.carol_syntax.specs.declared.places.Span.{Span}
use Rattle.carol_syntax.specs.Limits.{largest, longest_name}
use Rattle.carol_syntax.specs.Shape.{IsName}
use Rattle.carol_syntax.specs.Words.{is_small_letter, is_word_byte, is_word, is_keyword}
use Rattle.carol_syntax.specs.declared.kind.Kind.{Kind}
use Rattle.carol_syntax.specs.declared.kind.Kind.TheVariants as k
use Rattle.carol_syntax.specs.declared.found.Found.{Found}
use Rattle.carol_syntax.specs.Keywords.{kind_in, keyword_kinds, kind_of_word}
use Rattle.carol_syntax.specs.First.{first_token, judged_word, judged_number, first_symbol}

-- another kind than that of names
abbrev is_other : Kind → Bool
is_other k.Name = false
is_other _ = true

other_kind : (kind : Kind) → is_other kind ≡ true → kind ≡ k.Name → ⊥
other_kind kind h e = cc (h, ap is_other e)

same_word : (word entry : List ℕ) → bytes_eq entry word ≡ false → bytes_eq word entry ≡ false
same_word word entry h =
    elim (cases_Bool (bytes_eq word entry)) [
      | inl same ↦ absurd (both_ways (bytes_eq entry word) h ((bytes_eq-Decides entry word).1 (sym ((bytes_eq-Decides word entry).0 same))))
      | inr other ↦ other
    ]

by_entry : (entry : List ℕ × Kind) (entries : List (List ℕ × Kind)) (word : List ℕ) (b : Bool) → bytes_eq entry.0 word ≡ b
    → is_other entry.1 ≡ true → (kind_in entries word ≡ k.Name → list_any (bytes_eq word) (map (λ e. e.0) entries) ≡ false)
    → cond b entry.1 (kind_in entries word) ≡ k.Name
    → (bytes_eq word entry.0 || list_any (bytes_eq word) (map (λ e. e.0) entries)) ≡ false
by_entry entry entries word true e other more h = absurd (other_kind entry.1 other h)
by_entry entry entries word false e other more h = rw (same_word word entry.0 e) (more h)

-- a word that the entries give a name's kind is none of theirs
not_among : (entries : List (List ℕ × Kind)) (word : List ℕ) → list_all (λ e. is_other e.1) entries ≡ true
    → kind_in entries word ≡ k.Name → list_any (bytes_eq word) (map (λ e. e.0) entries) ≡ false
unfolding kind_in
not_among [] word others h = refl
not_among (entry ∷ entries) word others h =
    let parts = and_parts (is_other entry.1) (list_all (λ e. is_other e.1) entries) others in
    by_entry entry entries word (bytes_eq entry.0 word) refl parts.0 (not_among entries word parts.1) h

no_keyword : (word : List ℕ) → kind_of_word word ≡ k.Name → is_keyword word ≡ false
no_keyword word h = not_among keyword_kinds word refl h

all_pass : (p : ℕ → Bool) (xs : List ℕ) → list_all p (take_while p xs) ≡ true
all_pass p [] = refl
all_pass p (x ∷ xs) = rw (take_while-cons p x xs) (go (p x) refl (all_pass p xs))
  where
    go : (b : Bool) → p x ≡ b → list_all p (take_while p xs) ≡ true → list_all p (cond b (x ∷ take_while p xs) []) ≡ true
    go true e h = rw e h
    go false e h = refl

-- a run of word bytes that begins with a letter is a word
run_is_word : (b : ℕ) (bytes : List ℕ) → is_small_letter b ≡ true → is_word (take_while is_word_byte (b ∷ bytes)) ≡ true
run_is_word b bytes letter =
    let more = all_pass is_word_byte bytes in
    let goes : is_word_byte b ≡ true = rw letter refl in
    rw (take_while-cons is_word_byte b bytes, goes, letter) more

-- what was found is no name
abbrev no_name : Option Found → Bool
no_name None = true
no_name (Some found) = is_other found.kind

not_found : (o : Option Found) (found : Found) → no_name o ≡ true → o ≡ Some found → found.kind ≡ k.Name → ⊥
not_found o found none e h = other_kind found.kind (rw e at none) h

one_of : (b : Bool) (o p : Option Found) → no_name o ≡ true → no_name p ≡ true → no_name (cond b o p) ≡ true
one_of true o p h g = h
one_of false o p h g = g

of_one : (b : Bool) (o p : Option Found) → no_name (cond b o p) ≡ cond b (no_name o) (no_name p)
of_one true o p = refl
of_one false o p = refl

no_choice : (b : Bool) → cond b true true ≡ true
no_choice true = refl
no_choice false = refl

no_symbol : (b : ℕ) (bytes : List ℕ) → no_name (first_symbol b bytes) ≡ true
no_symbol b [] = simp (of_one, no_choice)
no_symbol b (c ∷ bytes) = simp (of_one, no_choice)

no_number : (bytes : List ℕ) (r : Result (ℕ × List ℕ) ℕ) → no_name (judged_number bytes r) ≡ true
no_number bytes (Ok x) = one_of (starts_with_digit x.1) _ _ refl refl
no_number bytes (Err e) = refl

-- a word that was found as a name is one
name_judged : (b : Bool) (run : List ℕ) (found : Found) (span : Span) → nat_lt longest_name (length run) ≡ b → is_word run ≡ true
    → cond b None (Some (record { kind = kind_of_word run; value = 0; length = length run })) ≡ Some found → found.kind ≡ k.Name
    → IsName (record { word = run; span = span }) × (found.length ≡ length run)
name_judged true run found span e word h name = absurd cc
name_judged false run found span e word h name =
    let kind : kind_of_word run ≡ k.Name = cc in
    let count : found.length ≡ length run = cc in
    let short : length run ≤ longest_name = grind (arith, nat_tests) in
    ((word, short, no_keyword run kind), count)

run_taken : (bytes : List ℕ) (n : ℕ) → n ≡ length (take_while is_word_byte bytes) → take n bytes ≡ take_while is_word_byte bytes
run_taken bytes n e = ap (λ m. take m bytes) (e ∙ length-prefix_len is_word_byte bytes)

found_by : (letter digit : Bool) (b : ℕ) (bytes : List ℕ) (found : Found) (span : Span) → is_small_letter b ≡ letter
    → cond letter (judged_word (take_while is_word_byte (b ∷ bytes)))
    (cond digit (judged_number (b ∷ bytes) (number_at largest (b ∷ bytes))) (first_symbol b bytes)) ≡ Some found
    → found.kind ≡ k.Name → IsName (record { word = take found.length (b ∷ bytes); span = span })
found_by true digit b bytes found span letter h name =
    let run = take_while is_word_byte (b ∷ bytes) in
    let judged = name_judged (nat_lt longest_name (length run)) run found span refl (run_is_word b bytes letter) h name in
    subst (λ w. IsName (record { word = w; span = span })) (sym (run_taken (b ∷ bytes) found.length judged.1)) judged.0
found_by false digit b bytes found span other h name =
    absurd (not_found _ found (one_of digit _ _ (no_number (b ∷ bytes) (number_at largest (b ∷ bytes))) (no_symbol b bytes)) h name)

-- a name that a text begins with is one
pub found_name : (bytes : List ℕ) (found : Found) (span : Span) → first_token bytes ≡ Some found → found.kind ≡ k.Name
    → IsName (record { word = take found.length bytes; span = span })
unfolding first_token
found_name [] found span h name = absurd cc
found_name (b ∷ bytes) found span h name = found_by (is_small_letter b) (is_ascii_digit b) b bytes found span refl h name

-- Words: they are the same word before bytes that don't lengthen them, and each name is a word.
use Rattle.std.proofs.Common.{◌≡◌, ℕ, suc, ◌+◌, ◌≤◌, Bool, true, false, cond, eqb, not, ◌||◌, List, [], ◌∷◌, ◌++◌, length, refl, sym, ap, subst, arith, ◌∙◌, eq-eqb, map, inl, inr}
use Rattle.std.specs.Prelude.{Option, None, nat_lt, take_while}
use Rattle.std.specs.List.{prefix_len, list_all, list_any}
use Rattle.std.specs.Str.{bytes_eq}
use Rattle.std.specs.Char.{is_ascii_digit}
use Rattle.carol_text.specs.Number.{number_at}
use Rattle.std.proofs.lemmas.Bool.{and_parts, le-ltb, not-true, cases_Bool, both_ways}
use Rattle.std.proofs.lemmas.Slice.Eq.{bytes_eq-Decides}
use Rattle.std.proofs.lemmas.List.Folds.{prefix_len-append, length-prefix_len}
use Rattle.std.proofs.Math.Seq.{take-append_seam, take-length}
use Rattle.carol_syntax.specs.Limits.{largest, longest_name}
use Rattle.carol_syntax.specs.Words.{is_small_letter, is_word_byte, is_word, is_keyword}
use Rattle.carol_syntax.specs.declared.kind.Kind.{Kind}
use Rattle.carol_syntax.specs.declared.kind.Kind.TheVariants as k
use Rattle.carol_syntax.specs.declared.found.Found.{Found}
use Rattle.carol_syntax.specs.Keywords.{kind_in, keyword_kinds, kind_of_word}
use Rattle.carol_syntax.specs.First.{first_token, judged_word, judged_number, first_symbol, starts_word}
use Rattle.carol_print.specs.Pieces.{is_symbol, ends_before, IsSpelled}
use Rattle.carol_print.proofs.Symbols.{token_with, same_found}

-- no word is a symbol
no_symbol : (entries : List (List ℕ × Kind)) (word : List ℕ) → list_all (λ e. not (is_symbol e.1)) entries ≡ true → is_symbol (kind_in entries word) ≡ false
unfolding kind_in
no_symbol [] word h = refl
no_symbol (entry ∷ entries) word h = let both = and_parts (not (is_symbol entry.1)) (list_all (λ e. not (is_symbol e.1)) entries) h in
    elim (bytes_eq entry.0 word) as (λ t. is_symbol (cond t entry.1 (kind_in entries word)) ≡ false) [ true ↦ not-true (is_symbol entry.1) both.0 | false ↦ no_symbol entries word both.1 ]

pub word_ends : (word bytes : List ℕ) → ends_before (kind_of_word word) bytes ≡ true → starts_word bytes ≡ false
word_ends word [] e = refl
word_ends word (b ∷ bytes) e = not-true (is_word_byte b) (rw (no_symbol keyword_kinds word refl) at e)

-- a run of word bytes ends where no word byte follows
run_of : (bytes : List ℕ) → starts_word bytes ≡ false → prefix_len is_word_byte bytes ≡ 0
run_of [] e = refl
run_of (b ∷ bytes) e = rw e refl

run_before : (word bytes : List ℕ) → prefix_len is_word_byte word ≡ length word → starts_word bytes ≡ false → take_while is_word_byte (word ++ bytes) ≡ word
run_before word bytes whole e =
    let none = run_of bytes e in
    let same : eqb (length word) (length word) ≡ true = eq-eqb _ _ refl in
    let count : length word + 0 ≡ length word = omega arith in
    rw (prefix_len-append is_word_byte word bytes, whole, same, none, count) (take-append_seam word bytes)

judged : (run : List ℕ) (kind : Kind) (value count : ℕ) → judged_word run ≡ token_with kind value count → (count ≡ length run) × (kind ≡ kind_of_word run)
judged run kind value count h =
    elim (nat_lt longest_name (length run)) as (λ t. cond t None (token_with (kind_of_word run) 0 (length run)) ≡ token_with kind value count → (count ≡ length run) × (kind ≡ kind_of_word run)) [
      | true ↦ λ e. absurd cc
      | false ↦ λ e. let same = same_found _ _ e in (sym (ap (λ (f : Found). f.length) same), sym (ap (λ (f : Found). f.kind) same))
    ] h

pub word_goes : (word bytes : List ℕ) (kind : Kind) (value : ℕ) → judged_word (take_while is_word_byte word) ≡ token_with kind value (length word) → ends_before kind bytes ≡ true → take_while is_word_byte (word ++ bytes) ≡ take_while is_word_byte word
word_goes word bytes kind value h e =
    let found = judged (take_while is_word_byte word) kind value (length word) h in
    let whole : prefix_len is_word_byte word ≡ length word = sym (found.0 ∙ length-prefix_len is_word_byte word) in
    let end = word_ends (take_while is_word_byte word) bytes (subst (λ (x : Kind). ends_before x bytes ≡ true) found.1 e) in
    run_before word bytes whole end ∙ rw (whole, take-length word) refl

-- ---- names

all_run : (bytes : List ℕ) → list_all is_word_byte bytes ≡ true → prefix_len is_word_byte bytes ≡ length bytes
all_run [] h = refl
all_run (b ∷ bytes) h =
    let both = and_parts (is_word_byte b) (list_all is_word_byte bytes) h in
    let count : 1 + length bytes ≡ suc (length bytes) = omega arith in
    rw (both.0, all_run bytes both.1) count

neither : (x y : Bool) → (x || y) ≡ false → (x ≡ false) × (y ≡ false)
neither true y h = absurd cc
neither false y h = (refl, h)

other_word : (word entry : List ℕ) → bytes_eq word entry ≡ false → bytes_eq entry word ≡ false
other_word word entry h =
    elim (cases_Bool (bytes_eq entry word)) [
      | inl same ↦ absurd (both_ways (bytes_eq word entry) h ((bytes_eq-Decides word entry).1 (sym ((bytes_eq-Decides entry word).0 same))))
      | inr other ↦ other
    ]

-- a word that is none of the entries' is a name
name_kind : (entries : List (List ℕ × Kind)) (word : List ℕ) → list_any (bytes_eq word) (map (λ e. e.0) entries) ≡ false → kind_in entries word ≡ k.Name
unfolding kind_in
name_kind [] word h = refl
name_kind (entry ∷ entries) word h =
    let both = neither (bytes_eq word entry.0) (list_any (bytes_eq word) (map (λ e. e.0) entries)) h in
    let other = other_word word entry.0 both.0 in
    rw other (name_kind entries word both.1)

letter_is_word : (b : ℕ) → is_small_letter b ≡ true → is_word_byte b ≡ true
letter_is_word b h = rw h refl

name_judged : (word : List ℕ) → nat_lt longest_name (length word) ≡ false → kind_of_word word ≡ k.Name → judged_word word ≡ token_with k.Name 0 (length word)
name_judged word fits kind = rw (fits, kind) refl

word_begins : (b : ℕ) (bytes : List ℕ) (found : Option Found) → is_small_letter b ≡ true → judged_word (take_while is_word_byte (b ∷ bytes)) ≡ found → first_token (b ∷ bytes) ≡ found
unfolding first_token
word_begins b bytes found letter h =
    subst (λ (t : Bool). cond t (judged_word (take_while is_word_byte (b ∷ bytes))) (cond (is_ascii_digit b) (judged_number (b ∷ bytes) (number_at largest (b ∷ bytes))) (first_symbol b bytes)) ≡ found) (sym letter) h

pub name_spelled : (bytes : List ℕ) → is_word bytes ≡ true → length bytes ≤ longest_name → is_keyword bytes ≡ false → IsSpelled k.Name 0 bytes
name_spelled [] word short other = absurd cc
name_spelled (b ∷ bytes) word short other =
    let both = and_parts (is_small_letter b) (list_all is_word_byte bytes) word in
    let letter : is_word_byte b ≡ true = letter_is_word b both.0 in
    let all : list_all is_word_byte (b ∷ bytes) ≡ true = rw letter both.1 in
    let run : take_while is_word_byte (b ∷ bytes) ≡ b ∷ bytes = rw (all_run (b ∷ bytes) all) (take-length (b ∷ bytes)) in
    let kind : kind_of_word (b ∷ bytes) ≡ k.Name = name_kind keyword_kinds (b ∷ bytes) other in
    let fits : nat_lt longest_name (length (b ∷ bytes)) ≡ false = le-ltb longest_name (length (b ∷ bytes)) short in
    word_begins b bytes (token_with k.Name 0 (suc (length bytes))) both.0 (ap judged_word run ∙ name_judged (b ∷ bytes) fits kind)

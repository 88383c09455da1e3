-- Lists of one element, and the words that are a command.
use Rattle.std.proofs.Common.{◌≡◌, ◌≢◌, ◌<◌, ◌≤◌, List, [], ◌∷◌, ◌++◌, ℕ, zero, suc, length, get_or, refl, sym, ◌∙◌, ap, inl, inr, arith}
use Rattle.std.specs.Prelude.{◌⊎◌, ◌==◌, Bool, true, false, Option, Some, None, option_map, codes, decimal, bytes_eq, if◌then◌else◌}
use Rattle.std.proofs.lemmas.Bool.{cases_eq}
use Rattle.std.proofs.lemmas.Bool.Decides.{nat_tests}
use Rattle.std.proofs.lemmas.List.{append-nil}
use lib.Pointwise.{bytes_decides}
use Rattle.carol_text.specs.Number.{starts_with_digit}
use Rattle.carol_generator.specs.declared.generator.TheConstants.{MOST_PER_SESSION}
use Rattle.carol_tool.specs.Words.{IsCounted, command_of, spelled_count, word_with}
use Rattle.carol_tool.specs.declared.command.Command.{Command}
use Rattle.carol_tool.specs.declared.command.Command.TheVariants as command
use Rattle.carol_tool.specs.declared.command.Word.{Word}
use Rattle.carol_tool.specs.declared.command.Word.TheVariants as asked

-- a list of one element is that element
pub single : {A : Type 0} (xs : List A) (x : A) → 1 ≤ length xs → length xs < 2 → x ≡ get_or xs 0 x → xs ≡ x ∷ []
single [] x low high e = absurd (omega arith)
single (y ∷ []) x low high e = ap (λ z. z ∷ []) (sym e)
single (y ∷ z ∷ zs) x low high e = absurd (omega arith)

-- one of four commands is the last only where its own word was given
only_run : (a b c d : Bool)
    → (if a then Some (command.Read asked.Audit) else if b then Some (command.Read asked.Check) else if c then Some (command.Read asked.Step) else if d then Some command.Run else None) ≡ Some command.Run
    → d ≡ true
only_run true b c d e = cc
only_run false true c d e = cc
only_run false false true d e = cc
only_run false false false true e = refl
only_run false false false false e = cc

-- none of them takes a number
never_counted : (a b c d : Bool) (n : ℕ)
    → (if a then Some (command.Read asked.Audit) else if b then Some (command.Read asked.Check) else if c then Some (command.Read asked.Step) else if d then Some command.Run else None) ≡ Some (command.Gen n)
    → ⊥
never_counted true b c d n e = cc
never_counted false true c d n e = cc
never_counted false false true d n e = cc
never_counted false false false true n e = cc
never_counted false false false false n e = cc

-- a word and its argument
with_run : (b : Bool) (spelled : Option ℕ) (word : Option Word)
    → (if b then option_map command.Gen spelled else option_map command.Read word) ≡ Some command.Run → ⊥
with_run true (Some n) word e = cc
with_run true None word e = cc
with_run false spelled (Some word) e = cc
with_run false spelled None e = cc

counted_is : (b : Bool) (spelled : Option ℕ) (word : Option Word) (n : ℕ)
    → (if b then option_map command.Gen spelled else option_map command.Read word) ≡ Some (command.Gen n) → spelled ≡ Some n
counted_is true (Some m) word n e = cc
counted_is true None word n e = cc
counted_is false spelled (Some word) n e = cc
counted_is false spelled None n e = cc

-- other words than `run` alone are another command, or none
pub not_run : (words : List (List ℕ)) → words ≢ codes "run" ∷ [] → command_of words ≢ Some command.Run
not_run [] other e = cc
not_run (word ∷ []) other e =
    other (ap (λ w. w ∷ []) ((bytes_decides word (codes "run")).0 (only_run (bytes_eq word (codes "audit")) (bytes_eq word (codes "check")) (bytes_eq word (codes "step")) (bytes_eq word (codes "run")) e)))
not_run (word ∷ count ∷ []) other e = with_run (bytes_eq word (codes "gen")) (spelled_count MOST_PER_SESSION count) (word_with word count) e
not_run (word ∷ count ∷ next ∷ more) other e = cc

-- ---- numbers that are spelled in a word

either : (b : Bool) → (b ≡ true) ⊎ (b ≡ false)
either true = inl refl
either false = inr refl

true_false : true ≡ false → ⊥
true_false e = cc

some_same : (m n : ℕ) → Some m ≡ Some n → m ≡ n
some_same m n e = cc

-- one number is spelled so, and no other
spelled_is : (most : ℕ) (word : List ℕ) (n : ℕ) → 1 ≤ n → n ≤ most → word ≡ decimal n → ((m : ℕ) → m ≤ most → word ≡ decimal m → n ≡ m) → Some n ≡ spelled_count most word
unfolding spelled_count
spelled_is zero word n low high is only = absurd (omega (arith, low, high))
spelled_is (suc most) word n low high is only = elim (either (bytes_eq word (decimal (suc most)))) [
  | inl same ↦ rw same (ap Some (only (suc most) (omega arith) ((bytes_decides word (decimal (suc most))).0 same)))
  | inr other ↦ rw other (spelled_is most word n low (below other) is (λ m few. only m (omega (arith, few))))
]
  where
    below : bytes_eq word (decimal (suc most)) ≡ false → n ≤ most
    below other = elim (cases_eq n (suc most)) [
      | inl e ↦ absurd (true_false (sym ((bytes_decides word (decimal (suc most))).1 (is ∙ ap decimal e)) ∙ other))
      | inr differs ↦ omega (arith, differs, high)
    ]

-- none is
spelled_none : (most : ℕ) (word : List ℕ) → ((m : ℕ) → 1 ≤ m → m ≤ most → word ≡ decimal m → ⊥) → None ≡ spelled_count most word
unfolding spelled_count
spelled_none zero word none = refl
spelled_none (suc most) word none = elim (either (bytes_eq word (decimal (suc most)))) [
  | inl same ↦ absurd (none (suc most) (omega arith) (omega arith) ((bytes_decides word (decimal (suc most))).0 same))
  | inr other ↦ rw other (spelled_none most word (λ m low few. none m low (omega (arith, few))))
]

-- the number is in range
spelled_within : (most : ℕ) (word : List ℕ) (n : ℕ) → spelled_count most word ≡ Some n → (1 ≤ n) × (n ≤ most)
unfolding spelled_count
spelled_within zero word n e = cc
spelled_within (suc most) word n e = elim (either (bytes_eq word (decimal (suc most)))) [
  | inl same ↦ let is : suc most ≡ n = some_same (suc most) n (rw same at e) in (omega (arith, is), omega (arith, is))
  | inr other ↦ let within = spelled_within most word n (rw other at e) in (within.0, omega (arith, within.1))
]

-- what is read at the front is the one number that stands there with no digit behind it
abbrev pub IsOnly : ℕ → List ℕ → ℕ → List ℕ → Type 0
IsOnly most word n rest = (m : ℕ) (more : List ℕ) → m ≤ most → starts_with_digit more ≡ false → word ≡ decimal m ++ more → (n ≡ m) × (rest ≡ more)

alone : (most : ℕ) (word : List ℕ) (n : ℕ) (rest : List ℕ) → IsOnly most word n rest → (m : ℕ) → m ≤ most → word ≡ decimal m → (n ≡ m) × (rest ≡ [])
alone most word n rest only m few is = only m [] few refl (is ∙ sym (append-nil (decimal m)))

empty_from : (xs : List ℕ) → (length xs == 0) ≡ true → xs ≡ []
empty_from [] e = refl
empty_from (x ∷ xs) e = absurd (grind (arith, nat_tests))

-- it is the whole word, and no zero
pub spelled_whole : (most : ℕ) (word : List ℕ) (n : ℕ) (rest : List ℕ) → n ≤ most → word ≡ decimal n ++ rest → IsOnly most word n rest
    → (length rest == 0) ≡ true → 1 ≤ n → Some n ≡ spelled_count most word
spelled_whole most word n rest few is only empty low =
    spelled_is most word n low few (is ∙ (ap (λ more. decimal n ++ more) (empty_from rest empty) ∙ append-nil (decimal n)))
    (λ m few. λ same. (alone most word n rest only m few same).0)

-- it is a zero
pub spelled_zero : (most : ℕ) (word : List ℕ) (n : ℕ) (rest : List ℕ) → IsOnly most word n rest → n < 1 → None ≡ spelled_count most word
spelled_zero most word n rest only low = spelled_none most word (λ m some few is. omega (arith, some, low, (alone most word n rest only m few is).0))

-- more stands behind it
pub spelled_more : (most : ℕ) (word : List ℕ) (n : ℕ) (rest : List ℕ) → IsOnly most word n rest → (length rest == 0) ≡ false → None ≡ spelled_count most word
spelled_more most word n rest only more = spelled_none most word (λ m some few is. not_empty rest more (alone most word n rest only m few is).1)
  where
    not_empty : (xs : List ℕ) → (length xs == 0) ≡ false → xs ≡ [] → ⊥
    not_empty [] e empty = cc
    not_empty (x ∷ xs) e empty = cc

-- there is none
pub spelled_bad : (most : ℕ) (word : List ℕ) → ((m : ℕ) (more : List ℕ) → m ≤ most → starts_with_digit more ≡ false → word ≡ decimal m ++ more → ⊥) → None ≡ spelled_count most word
spelled_bad most word none = spelled_none most word (λ m some few is. none m [] few refl (is ∙ sym (append-nil (decimal m))))

-- words that are a command with a number have one in range
pub gen_within : (words : List (List ℕ)) (n : ℕ) → command_of words ≡ Some (command.Gen n) → (1 ≤ n) × (n ≤ MOST_PER_SESSION)
gen_within [] n e = cc
gen_within (word ∷ []) n e = absurd (never_counted (bytes_eq word (codes "audit")) (bytes_eq word (codes "check")) (bytes_eq word (codes "step")) (bytes_eq word (codes "run")) n e)
gen_within (word ∷ count ∷ []) n e = spelled_within MOST_PER_SESSION count n (counted_is (bytes_eq word (codes "gen")) (spelled_count MOST_PER_SESSION count) (word_with word count) n e)
gen_within (word ∷ count ∷ next ∷ more) n e = cc

pub counted_of : (words : List (List ℕ)) (asked : Option Command) → asked ≡ command_of words → IsCounted asked
counted_of words None e = tt
counted_of words (Some (command.Read word)) e = tt
counted_of words (Some (command.Gen n)) e = gen_within words n (sym e)
counted_of words (Some command.Run) e = tt

-- What a word is kept as.
use Rattle.std.proofs.Common.{◌≡◌, ◌<◌, ◌≤◌, ℕ, List, [], ◌++◌, length, drop, sym, ◌∙◌, ap}
use Rattle.std.specs.Prelude.{if◌then◌else◌, replicate}
use Rattle.std.proofs.lemmas.Bool.{le-ltb, lt-ltb}
use Rattle.carol_advise_word.specs.declared.op_word.OpWord.{OpWord}
use Rattle.carol_advise_word.specs.OpWord.{filled, op_word}

abbrev kept_at : List ℕ → List ℕ → OpWord
kept_at first word = record { bytes = first ++ drop (length word) (replicate 64 0); length = length word }

pub long : (word : List ℕ) → 64 < length word → filled [] ≡ op_word word
unfolding op_word
long word h = ap (λ t. if t then filled [] else filled word) (sym (lt-ltb 64 (length word) h))

pub short : (first word : List ℕ) → length word ≤ 64 → first ≡ word → kept_at first word ≡ op_word word
unfolding op_word
short first word h same = ap (λ xs. kept_at xs word) same ∙ ap (λ t. if t then filled [] else filled word) (sym (le-ltb 64 (length word) h))

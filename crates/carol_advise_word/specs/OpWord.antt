-- A word that may be the name of an operation, as data of one size.
use Rattle.std.specs.Prelude.{ℕ, nat_lt, if◌then◌else◌, List, [], ◌++◌, drop, length, take, replicate}
use Rattle.carol_advise_word.specs.declared.op_word.OpWord.{OpWord}
use Rattle.carol_advise_word.specs.declared.op_word.TheConstants.{LONGEST_WORD}

-- these bytes, of which there are at most so many
abbrev pub filled : List ℕ → OpWord
filled word = record { bytes = word ++ drop (length word) (replicate LONGEST_WORD 0); length = length word }

-- the word, or the empty one where it is too long to be a name
unfoldable pub op_word : List ℕ → OpWord
op_word word = if nat_lt LONGEST_WORD (length word) then filled [] else filled word

-- the bytes that are kept
abbrev pub word_of : OpWord → List ℕ
word_of word = take word.length word.bytes

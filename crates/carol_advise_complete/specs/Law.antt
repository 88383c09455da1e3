-- That `advise OP` is done where nothing stands against its input.
use Rattle.std.specs.Prelude.{◌≡◌, List, ℕ, Some, length, slice_get}
use Rattle.carol_advise.specs.Advised.{HasTooMany}
use Rattle.carol_advise.specs.Tried.{IsDoubtfulUnder}
use Rattle.carol_advise_guards.specs.Under.{Assigns}
use Rattle.carol_advise_word.specs.declared.op_word.OpWord.{OpWord}
use Rattle.carol_advise_word.specs.Advise.{AdviseSays}
use Rattle.carol_advise_word.specs.Found.{op_named}
use Rattle.carol_advise_word.specs.OpWord.{word_of}
use Rattle.carol_complete.specs.Inputs.{IsPassing}
use Rattle.carol_decide.specs.declared.answer.Why.{Why}
use Rattle.carol_grammar.specs.Outcome.{Means, Read}
use Rattle.carol_meaning.specs.Programs.{names_of, rules_of}
use Rattle.carol_program.specs.declared.places.Place.{Place}
use Rattle.carol_program.specs.Rules.{OpRules, Rules}
use Rattle.carol_reply.specs.declared.status.Status.TheVariants.{Ok}
use Rattle.carol_reply.specs.Texts.{Answer}
use Rattle.carol_syntax.specs.Files.{FileTree}

-- nothing that is asked of the operation can stay open, whichever guards its queries have
abbrev pub NothingOpenUnder : Rules → ℕ → OpRules → Type 0
NothingOpenUnder p number op =
    (guards : List ℕ) (place : Place) (why : Why) → Assigns (length p.guards) op guards →
    ¬ IsDoubtfulUnder p number op guards place why

-- The bytes are a file within the limits, whose program passes and has an operation of this name.
-- It has no more assignments of guards than are tried, and nothing stays open under one.
pub record IsAdviseInput (word : OpWord) (bytes : List ℕ) : Type 0 where
  pub file : FileTree
  pub read : Means bytes (Read file)
  pub passing : IsPassing file.program
  pub number : ℕ
  pub named : op_named (names_of file.program) (word_of word) ≡ Some number
  pub op : OpRules
  pub found : slice_get (rules_of file.program).ops number ≡ Some op
  pub few : ¬ HasTooMany (rules_of file.program) op
  pub none_open : NothingOpenUnder (rules_of file.program) number op

-- of the answers that are right each has the status of success
abbrev pub AdvisesSucceed : Type 0
AdvisesSucceed =
    (word : OpWord) (bytes : List ℕ) (answer : Answer) → IsAdviseInput word bytes →
    AdviseSays (word_of word) bytes answer → answer.0 ≡ Ok

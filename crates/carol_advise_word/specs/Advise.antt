-- What `advise` means.
use Rattle.std.specs.Prelude.{◌≡◌, ◌⊎◌, List, ℕ, Option, Some, None, codes}
use Rattle.carol_accept.specs.Verdicts.{line, undecided_text}
use Rattle.carol_advise.specs.declared.answer.Advice.{Advice}
use Rattle.carol_advise.specs.declared.answer.AdviseError.TheVariants as error
use Rattle.carol_advise.specs.Advised.{HasTooManyFor, IsAdviceFor, IsLeastFor, IsReasonFor}
use Rattle.carol_decide.specs.declared.answer.Why.{Why}
use Rattle.carol_prepare.specs.Parts.{ProgramSays}
use Rattle.carol_prepare.specs.Verdicts.{VerdictSays}
use Rattle.carol_program.specs.declared.places.Place.{Place}
use Rattle.carol_reading.specs.Kept.{Kept}
use Rattle.carol_reply.specs.declared.status.Status.TheVariants as status
use Rattle.carol_reply.specs.Meaning.{Meaning}
use Rattle.carol_reply.specs.Texts.{Answer}
use Rattle.carol_advise_word.specs.declared.op_word.OpWord.{OpWord}
use Rattle.carol_advise_word.specs.Found.{op_named}
use Rattle.carol_advise_word.specs.OpWord.{word_of}
use Rattle.carol_advise_word.specs.Texts.{advice_text}

-- no operation has the name
abbrev pub unknown_answer : Answer
unknown_answer = (status.Text, line (codes "advise unknown"))

-- it has too many assignments
abbrev pub many_answer : Answer
many_answer = (status.Text, line (codes "advise too many"))

-- An advice for the operation with this number is told: it is good, and none that is good bars less.
pub record IsToldAdvice (kept : Kept) (number : ℕ) (answer : Answer) : Type 0 where
  pub advice : Advice
  pub is : IsAdviceFor kept number advice
  pub least : IsLeastFor kept number advice
  pub few : HasTooManyFor kept number → ⊥
  pub told : answer ≡ (status.Ok, advice_text kept.program number advice)

-- the reason is told for which it stays unclear whether the operation is good under an assignment
pub record IsToldOpen (kept : Kept) (number : ℕ) (answer : Answer) : Type 0 where
  pub guards : List ℕ
  pub place : Place
  pub why : Why
  pub is : IsReasonFor kept number (error.Undecided guards place why)
  pub few : HasTooManyFor kept number → ⊥
  pub told : answer ≡ (status.Undecided, undecided_text kept.program place why)

-- the answer for the operation with this number
abbrev pub OpSays : Kept → ℕ → Answer → Type 0
OpSays kept number answer =
    (HasTooManyFor kept number × (answer ≡ many_answer)) ⊎ (IsToldAdvice kept number answer ⊎ IsToldOpen kept number answer)

-- the answer for an operation, if there is one
abbrev pub FoundSays : Kept → Option ℕ → Answer → Type 0
FoundSays kept None answer = answer ≡ unknown_answer
FoundSays kept (Some number) answer = OpSays kept number answer

-- the answer for the operation that the word names, of an accepted program
abbrev pub NameSays : List ℕ → Kept → Answer → Type 0
NameSays name kept answer = FoundSays kept (op_named kept.program.names name) answer

-- the answer to the bytes: what stands behind the program of their file isn't looked at
abbrev pub AdviseSays : List ℕ → List ℕ → Answer → Type 0
AdviseSays name bytes answer = ProgramSays (VerdictSays (NameSays name)) bytes answer

-- the text of an advice shows numbers, which the bytes don't fix
abbrev pub advise_meaning : OpWord → Meaning
advise_meaning word = record { says = AdviseSays (word_of word); whole = Unit {0}; unread = ⊥; history = ⊥ }

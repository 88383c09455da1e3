-- What is told where an assignment stays undecided.
use Rattle.std.proofs.Common.{◌≡◌, ℕ, List, ◌∙◌, ap, subst, inl, inr}
use Rattle.std.specs.Prelude.{Result, Err}
use Rattle.carol_accept.specs.Verdicts.{undecided_text}
use Rattle.carol_advise.specs.declared.answer.Advice.{Advice}
use Rattle.carol_advise.specs.declared.answer.AdviseError.{AdviseError}
use Rattle.carol_advise.specs.declared.answer.AdviseError.TheVariants.{TooMany, Undecided}
use Rattle.carol_advise.specs.Advised.{HasTooManyFor, IsReasonFor}
use Rattle.carol_decide.specs.declared.answer.Why.{Why}
use Rattle.carol_program.specs.declared.places.Place.{Place}
use Rattle.carol_program.specs.declared.program.Program.{Program}
use Rattle.carol_reading.specs.Kept.{Kept}
use Rattle.carol_reply.specs.declared.status.Status.TheVariants as status
use Rattle.carol_advise_word.specs.Advise.{OpSays}

abbrev Outcome : Type 0
Outcome = Result Advice AdviseError

abbrev failed : AdviseError → Outcome
failed error = Err error

not_many : (error : AdviseError) (guards : List ℕ) (place : Place) (why : Why) → error ≡ Undecided guards place why → failed error ≡ failed TooMany → ⊥
not_many error guards place why is same = cc

pub open_told : (kept : Kept) (number : ℕ) (error : AdviseError) (guards : List ℕ) (place : Place) (why : Why) (shown : Program) (text : List ℕ)
    → error ≡ Undecided guards place why → IsReasonFor kept number error → (HasTooManyFor kept number → failed error ≡ failed TooMany) → shown ≡ kept.program
    → text ≡ undecided_text shown place why → OpSays kept number (status.Undecided, text)
open_told kept number error guards place why shown text is reason many same told =
    inr (inr (record {
      guards = guards;
      place = place;
      why = why;
      is = subst (IsReasonFor kept number) is reason;
      few = λ much. not_many error guards place why is (many much);
      told = ap (λ t. (status.Undecided, t)) (told ∙ ap (λ (p : Program). undecided_text p place why) same);
    }))

-- What a desk keeps of the answers to its steps.
use Rattle.std.specs.Prelude.{◌≡◌, ◌⊎◌, ℕ, Option, Some, None, Result, Ok, Err}
use Rattle.std.proofs.Common.{◌∙◌, inl, inr, refl}
use Rattle.carol_outer.specs.Faults.{one_more}
use Rattle.carol_house.specs.declared.moved.Moved.{Moved}
use Rattle.carol_house.specs.declared.moved.Moved.TheVariants as moved
use Rattle.carol_house.specs.declared.error.HouseError.{HouseError}
use Rattle.carol_house.specs.declared.error.HouseError.TheVariants as error
use Rattle.carol_worker.specs.declared.tally.Answer.{Answer}
use Rattle.carol_worker.specs.declared.tally.Answer.TheVariants as answer
use Rattle.carol_worker.specs.declared.tally.Answered.{Answered}
use Rattle.carol_worker.specs.declared.tally.Last.{Last}

-- a step of the session with this answer
abbrev pub step_of : ℕ → Answer → Option Last
step_of session given = Some (record { session = session; answer = given })

abbrev pub nothing_answered : Answered
nothing_answered = record { finished = 0; full = 0; last = None }

-- and the answers once a step of the session was answered so; want of memory is no answer
abbrev pub noted : ℕ → Result Moved HouseError → Answered → Answered
noted session (Ok (moved.Entered kind)) old = record {
  finished = old.finished;
  full = old.full;
  last = step_of session (answer.Entered kind);
}
noted session (Ok moved.Finished) old = record {
  finished = one_more old.finished;
  full = old.full;
  last = step_of session answer.Finished;
}
noted session (Err error.Full) old = record {
  finished = old.finished;
  full = one_more old.full;
  last = step_of session answer.Full;
}
noted session (Err error.NoMemory) old = old

-- the last answer is that of before, or one to the session
abbrev pub IsLastOf : Option Last → ℕ → Option Last → Type 0
IsLastOf old session new = (new ≡ old) ⊎ ((given : Answer) × (new ≡ step_of session given))

pub last_stays : (last : Option Last) (session : ℕ) → IsLastOf last session last
last_stays last session = inl refl

pub last_more : (old mid new : Option Last) (session : ℕ) → IsLastOf old session mid → IsLastOf mid session new → IsLastOf old session new
last_more old mid new session (inl one) (inl more) = inl (more ∙ one)
last_more old mid new session (inr one) (inl more) = inr (one.0, more ∙ one.1)
last_more old mid new session one (inr more) = inr more

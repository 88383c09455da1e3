-- What a history gives: how each command came out.
use Rattle.std.specs.Prelude.{◌≡◌, ◌≤◌, ℕ, ◌+◌, ◌==◌, if◌then◌else◌, List, [], ◌∷◌, ◌++◌, length, Some, slice_get, get_or}
use Rattle.carol_program.specs.declared.scenes.Scene.{Scene}
use Rattle.carol_program.specs.declared.scenes.SessionPlan.{SessionPlan}
use Rattle.carol_reading.specs.Marks.{Returned}
use Rattle.carol_event.specs.declared.event.Event.{Event}
use Rattle.carol_reading.specs.declared.outcome.Outcome.{Outcome}
use Rattle.carol_reading.specs.declared.outcome.Outcome.TheVariants as outcome
use Rattle.carol_history.specs.Acts.{Act, Did, Refused, acts, place}

-- how the commands that are done came out, in order
abbrev pub outcomes : ℕ → List Act → List Outcome
outcomes tries [] = []
outcomes tries (Did (Returned value) ∷ past) = outcomes tries past ++ outcome.Value value ∷ []
outcomes tries (Refused cause ∷ past) =
    if (place tries past).refusals + 1 == tries then outcomes tries past ++ outcome.Refused cause ∷ []
    else outcomes tries past
outcomes tries (act ∷ past) = outcomes tries past

-- how the session's command with this number came out
abbrev pub result : Scene → ℕ → ℕ → List Event → Outcome
result scene session command past =
    get_or (outcomes scene.tries (acts session past)) command outcome.NotDone

-- every command is done
abbrev pub AreDone : Scene → List Event → Type 0
AreDone scene past = (session : ℕ) (plan : SessionPlan) → slice_get scene.sessions session ≡ Some plan →
    length plan.commands ≤ length (outcomes scene.tries (acts session past))

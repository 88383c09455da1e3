-- How a session is served at a desk.
use Rattle.std.specs.Prelude.{◌≡◌, ◌⊎◌, ◌≤◌, ◌<◌, ◌+◌, ℕ}
use Rattle.carol_history.specs.declared.history.TheConstants.{MOST_EVENTS}
use Rattle.carol_worker.specs.declared.serving.Served.{Served}
use Rattle.carol_worker.specs.declared.serving.Served.TheVariants as served
use Rattle.carol_worker.specs.declared.tally.Answer.TheVariants as answer
use Rattle.carol_worker.specs.Answers.{step_of}
use Rattle.carol_worker.specs.Tally.{Rose, RoseBy, Tally}

-- the session made so many steps, each of which entered an event
pub record Went (old : Tally) (session steps : ℕ) (new : Tally) : Type 0 where
  pub entered : old.entered ≤ new.entered
  pub rose : RoseBy steps old.entered new.entered
  pub finished : new.finished ≡ old.finished
  pub full : new.full ≡ old.full
  pub none : steps ≡ 0 → new.last ≡ old.last
  pub last : 0 < steps → (kind : ℕ) × (new.last ≡ step_of session (answer.Entered kind))

-- a step found all commands of the session done; or one found the history full, or as many steps
-- entered an event as no history has
abbrev pub IsServed : Tally → ℕ → Served → Tally → Type 0
IsServed old session served.Done new =
    Rose old.finished new.finished × (new.last ≡ step_of session answer.Finished)
IsServed old session served.Full new =
    (Rose old.full new.full × (new.last ≡ step_of session answer.Full))
    ⊎ RoseBy (MOST_EVENTS + 1) old.entered new.entered

-- only the session's steps were made, of which each entered an event
abbrev pub OnlyWent : Tally → ℕ → Tally → Type 0
OnlyWent old session new = (steps : ℕ) × Went old session steps new

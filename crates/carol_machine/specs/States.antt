-- What a machine is to its callers.
use Rattle.std.specs.Prelude.{◌≡◌, ℕ, ◌<◌, ◌≤◌, Bool, false, nat_lt, if◌then◌else◌, List, [], length, replicate, get_or, Option, Some, None, slice_get}
use Rattle.carol_program.specs.Limits.{most_commands, most_guards, most_tries}
use Rattle.carol_program.specs.declared.scenes.Command.{Command}
use Rattle.carol_program.specs.declared.scenes.SessionPlan.{SessionPlan}
use Rattle.carol_reading.specs.Marks.{queried}
use Rattle.carol_reading.specs.Walks.{Progress}
use Rattle.carol_reading.specs.declared.outcome.Outcome.{Outcome}
use Rattle.carol_history.specs.Acts.{Act, Place, attempt, has_grant, marks, place}
use Rattle.carol_history.specs.Results.{outcomes}

-- one session: its plan, how often a command is tried, where it is, how far the operation under way
-- has come, whether each guard's grant is live, and how the commands that are done came out
pub record SessionState : Type 0 where
  pub plan : SessionPlan
  pub tries : ℕ
  pub at : Place
  pub walk : Progress
  pub live : List Bool
  pub results : List Outcome

-- the session stands where these acts bring it
pub record IsAt (m : SessionState) (done : List Act) : Type 0 where
  pub place : m.at ≡ place m.tries done
  pub stores : m.walk.stores ≡ queried (marks (attempt done))
  pub count : m.walk.done ≡ length (marks (attempt done))
  pub live : (guard : ℕ) → get_or m.live guard false ≡ has_grant guard done
  pub results : m.results ≡ outcomes m.tries done

-- the number of the command under way, if there is one
abbrev pub present_in : SessionState → Option ℕ
present_in m = if nat_lt m.at.command (length m.plan.commands) then Some m.at.command else None

-- a command is under way
abbrev pub HasCommand : SessionState → Type 0
HasCommand m = (command : Command) × (slice_get m.plan.commands m.at.command ≡ Some command)

-- no guard's grant is live
abbrev pub no_grants : List Bool
no_grants = replicate most_guards false

-- the session as it stands before its first act
abbrev pub state_of : SessionPlan → ℕ → SessionState
state_of plan tries = record {
  plan = plan;
  tries = tries;
  at = record { command = 0; refusals = 0 };
  walk = record { stores = []; done = 0 };
  live = no_grants;
  results = [];
}

-- what a machine keeps of its session, with room for so many outcomes
pub record IsKeptState (m : SessionState) (capacity : ℕ) : Type 0 where
  pub few_commands : length m.plan.commands ≤ most_commands
  pub few_tries : m.tries ≤ most_tries
  pub tries_left : m.at.refusals < m.tries
  pub within : m.at.command ≤ length m.plan.commands
  pub guards : length m.live ≡ most_guards
  pub told : length m.results ≡ m.at.command
  pub room : length m.plan.commands ≤ capacity

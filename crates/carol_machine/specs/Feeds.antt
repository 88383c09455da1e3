-- What a machine is fed, and what it stands at then.
use Rattle.std.specs.Prelude.{◌≡◌, ℕ, ◌+◌, ◌<◌, ◌==◌, true, if◌then◌else◌, List, [], ◌∷◌, ◌++◌, length, Some, slice_get, slice_set}
use Rattle.carol_store.specs.declared.effect.Atom.{Atom}
use Rattle.carol_store.specs.Kinds.{CellValue}
use Rattle.carol_program.specs.Rules.{Rules, OpRules}
use Rattle.carol_program.specs.declared.scenes.Command.{Command}
use Rattle.carol_reading.specs.Good.{MayLeave}
use Rattle.carol_reading.specs.Marks.{Mark, Asked, Issued, Released, Returned}
use Rattle.carol_reading.specs.Walks.{BringsTo}
use Rattle.carol_event.specs.declared.event.Cause.{Cause}
use Rattle.carol_reading.specs.declared.outcome.Outcome.{Outcome}
use Rattle.carol_reading.specs.declared.outcome.Outcome.TheVariants as outcome
use Rattle.carol_history.specs.Acts.{Act, Granted, Did, Refused}
use Rattle.carol_machine.specs.declared.fed.Fed.{Fed}
use Rattle.carol_machine.specs.declared.fed.Fed.TheVariants as fed
use Rattle.carol_machine.specs.States.{SessionState, HasCommand, no_grants}

-- the act that it is
abbrev pub IsActOf : Fed → Act → Type 0
IsActOf (fed.Granted guard) (Granted g) = g ≡ guard
IsActOf (fed.Queried store) (Did (Asked g x)) = x ≡ store
IsActOf fed.Issued (Did (Issued e)) = Unit {0}
IsActOf fed.Released (Did Released) = Unit {0}
IsActOf (fed.Returned value) (Did (Returned v)) = v ≡ value
IsActOf (fed.Refused cause) (Refused c) = c ≡ cause
IsActOf given act = ⊥

-- the operation under way may leave this mark behind marks that bring it as far as it has come
pub record MayFollow (p : Rules) (m : SessionState) (mark : Mark) : Type 0 where
  pub command : Command
  pub op : OpRules
  pub before : List Mark
  pub present : slice_get m.plan.commands m.at.command ≡ Some command
  pub found : slice_get p.ops command.op ≡ Some op
  pub brings : BringsTo before m.walk
  pub leaves : MayLeave p op command.args before mark

-- it answers what the session goes on with: the guard is one that there is, the mark may follow,
-- and where there is a refusal a command is under way
abbrev pub MayBeFed : Rules → SessionState → Fed → Type 0
MayBeFed p m (fed.Granted guard) = guard < length p.guards
MayBeFed p m (fed.Queried store) = (guard : ℕ) × MayFollow p m (Asked guard store)
MayBeFed p m fed.Issued = (effect : List Atom) × MayFollow p m (Issued effect)
MayBeFed p m fed.Released = MayFollow p m Released
MayBeFed p m (fed.Returned value) = MayFollow p m (Returned value)
MayBeFed p m (fed.Refused cause) = HasCommand m

-- the session with the guard's grant live
abbrev pub with_grant : ℕ → SessionState → SessionState
with_grant guard m = record m { live = slice_set m.live guard true }

-- the session with a store for its query
abbrev pub with_store : List CellValue → SessionState → SessionState
with_store store m = record m {
  walk = record { stores = m.walk.stores ++ store ∷ []; done = m.walk.done + 1 };
}

-- the session behind an issue or a release, which end all its grants
abbrev pub with_close : SessionState → SessionState
with_close m = record m {
  walk = record { stores = m.walk.stores; done = m.walk.done + 1 };
  live = no_grants;
}

-- the session at the start of an attempt, after so many refusals of its command
abbrev pub with_attempt : ℕ → SessionState → SessionState
with_attempt refusals m = record m {
  at = record { command = m.at.command; refusals = refusals };
  walk = record { stores = []; done = 0 };
  live = no_grants;
}

-- the session with its command done
abbrev pub with_outcome : Outcome → SessionState → SessionState
with_outcome told m = record m {
  at = record { command = m.at.command + 1; refusals = 0 };
  walk = record { stores = []; done = 0 };
  live = no_grants;
  results = m.results ++ told ∷ [];
}

-- the session with its attempt refused, which ends the command where it has no try left
abbrev pub with_refusal : Cause → SessionState → SessionState
with_refusal cause m =
    if m.at.refusals + 1 == m.tries then with_outcome (outcome.Refused cause) m
    else with_attempt (m.at.refusals + 1) m

use Rattle.std.proofs.Common.{◌≡◌, ◌≤◌, ◌++◌, drop, length, map}
use Rattle.carol_program.specs.Limits.{most_commands, most_sessions}
use Rattle.carol_program.specs.Rules.{rules_in}
use Rattle.carol_scenario.specs.Meaning.{session_meaning}
use Rattle.carol_scenario.specs.Faults.{sessions_faults}
use Rattle.carol_scenario.proofs.sessions.plans_of.Given as goal

abbrev pub invariant-loop-declaration : goal.invariant-loop-declaration
invariant-loop-declaration l = record {
  faults :
      sessions_faults (rules_in l.program) l.program.names l.replicas (length l.plans) l.earlier (drop l.declaration-index l.declarations) ≡
      sessions_faults (rules_in l.program) l.program.names l.replicas 0 0 l.declarations;
  made :
      l.plans ++ map (session_meaning l.program.names) (drop l.declaration-index l.declarations) ≡
      map (session_meaning l.program.names) l.declarations;
  sessions : length l.plans ≤ most_sessions;
  few : l.earlier ≤ most_commands;
}

use Rattle.std.proofs.Common.{◌≡◌, ◌+◌, ◌≤◌, ◌++◌, drop, length}
use Rattle.std.specs.List.{flat_map}
use Rattle.carol_program.specs.Limits.{most_commands}
use Rattle.carol_program.specs.Rules.{rules_in}
use Rattle.carol_scenario.specs.Meaning.{repeated}
use Rattle.carol_scenario.specs.Faults.{times_in, commands_faults}
use Rattle.carol_scenario.proofs.sessions.commands_of.Given as goal

abbrev pub invariant-loop-declaration : goal.invariant-loop-declaration
invariant-loop-declaration l = record {
  faults :
      commands_faults (rules_in l.program) l.program.names l.session l.earlier (length l.commands) (drop l.declaration-index l.declarations) ≡
      commands_faults (rules_in l.program) l.program.names l.session l.earlier 0 l.declarations;
  made :
      l.commands ++ flat_map (repeated l.program.names) (drop l.declaration-index l.declarations) ≡
      flat_map (repeated l.program.names) l.declarations;
  count : length l.commands + times_in (drop l.declaration-index l.declarations) ≡ times_in l.declarations;
  few : l.earlier + length l.commands ≤ most_commands;
}

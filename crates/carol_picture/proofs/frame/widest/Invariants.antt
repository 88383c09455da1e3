use Rattle.std.proofs.Common.{◌≡◌, ◌≤◌, drop}
use Rattle.carol_program.specs.Rules.{rules_in}
use Rattle.carol_picture.specs.Frame.{widest, widest_from}
use Rattle.carol_picture.proofs.frame.widest.Given as goal

abbrev pub invariant-loop-event : goal.invariant-loop-event
invariant-loop-event l =
    (widest_from (rules_in l.program) l.program.names l.longest (drop l.event-index l.events) ≡ widest (rules_in l.program) l.program.names l.events) × (l.longest ≤ 1000)

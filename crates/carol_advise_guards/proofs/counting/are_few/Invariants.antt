use Rattle.std.proofs.Common.{◌≡◌, ◌≤◌}
use Rattle.std.specs.Prelude.{◌^◌}
use Rattle.carol_advise_guards.proofs.counting.are_few.Given as goal

abbrev pub invariant-loop-slot : goal.invariant-loop-slot
invariant-loop-slot l = (l.count ≡ l.guards ^ l._slot) × (l.count ≤ 4096)

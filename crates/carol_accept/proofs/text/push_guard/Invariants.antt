use Rattle.std.proofs.Common.{◌≡◌, ◌++◌, drop}
use Rattle.carol_accept.specs.Texts.{cells_text, guard_text}
use Rattle.carol_accept.proofs.text.push_guard.Given as goal

abbrev pub invariant-loop-cell : goal.invariant-loop-cell
invariant-loop-cell l =
    l.out.items ++ cells_text l.names l.table l.guard l.cell (drop l.cell l.kinds) ≡ l.fn.out.items ++ guard_text l.names l.table l.kinds l.guard

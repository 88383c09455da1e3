use Rattle.std.proofs.Common.{◌≡◌, ◌+◌, ◌≤◌, ◌*◌, drop}
use Rattle.carol_advise_guards.specs.Bars.{noes_from}
use Rattle.carol_advise_guards.proofs.weight.noes.Given as goal

abbrev pub invariant-loop-cell : goal.invariant-loop-cell
invariant-loop-cell l =
    (l.count + noes_from l.table l.guard l.cell (drop l.cell l.kinds) ≡ noes_from l.table l.guard 0 l.kinds) × (l.count ≤ 2 * l.cell)

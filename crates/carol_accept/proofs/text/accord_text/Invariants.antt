use Rattle.std.proofs.Common.{◌≡◌, ◌++◌, ◌-◌, length}
use Rattle.std.specs.Prelude.{codes}
use Rattle.carol_accept.specs.Texts.{guards_text, line_feed}
use Rattle.carol_accept.proofs.text.accord_text.Given as goal

abbrev pub invariant-loop-guard : goal.invariant-loop-guard
invariant-loop-guard l =
    l.out.items ++ guards_text l.fn.accepted.program.names l.fn.accepted.accords l.fn.accepted.program.shape (length l.fn.accepted.program.guards - l.guard) l.guard
    ≡ (codes "accepted" ++ line_feed) ++ guards_text l.fn.accepted.program.names l.fn.accepted.accords l.fn.accepted.program.shape (length l.fn.accepted.program.guards) 0

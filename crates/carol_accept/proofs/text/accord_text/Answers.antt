use Rattle.std.proofs.Common.{◌<◌, ◌++◌, length}
use Rattle.std.specs.Prelude.{codes}
use Rattle.carol_accept.specs.Texts.{guards_text, line_feed}
use Rattle.carol_accept.proofs.AccordTexts.{guards_more}
use Rattle.carol_accept.proofs.text.accord_text.Goals as goal

pub loop-guard-preserved : goal.loop-guard-preserved
loop-guard-preserved c =
    let kept = c.args.accepted.now in
    let inside : c.loop-guard.guard < length kept.program.guards = rw (c.len-guard-end.ensures, c.program-program.ensures.program) at c.loop-guard-test.true
    in rw (c.in_ok-push_guard.ensures, c.accords.ensures, c.kinds-kinds.ensures.kinds, c.program-program.ensures.program)
    (guards_more c.loop-guard.out.items kept.program.names kept.accords kept.program.shape (length kept.program.guards) c.loop-guard.guard ((codes "accepted" ++ line_feed) ++ guards_text kept.program.names kept.accords kept.program.shape (length kept.program.guards) 0) inside c.loop-guard.invariant)

use Rattle.carol_resolve.proofs.Program.{lists-noted}
use Rattle.carol_resolve.proofs.parts.note_lists.Goals as goal

pub returns : goal.returns
returns c =
    lists-noted c.args.program.now c.args.finder.now _ _ _ _ c.as_slice-guards.result.now c.as_slice-ops.result.now c.as_slice-guards.ensures c.as_slice-ops.ensures
    c.in_ok-note_twice.ensures c.in_ok-note_too_many.ensures c.in_ok-note_twice-2.ensures c.in_ok-note_too_many-2.ensures

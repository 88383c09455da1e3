use Rattle.carol_resolve.proofs.PartLaws.{parts-noted}
use Rattle.carol_resolve.proofs.operations.operation.Goals as goal

pub returns-clause-faults : goal.returns-clause-faults
returns-clause-faults c =
    parts-noted c.args.around.now c.args.op.now c.args.finder.now _ _ _ _ c.as_slice-params.result.now _ _ _ c.as_slice-params.ensures c.in_ok-scope.ensures c.in_ok-params.ensures.scope c.in_ok-start.ensures
    c.in_ok-note_declared.ensures c.in_ok-params.ensures.faults c.in_ok-result.ensures.faults c.in_ok-body.ensures.faults

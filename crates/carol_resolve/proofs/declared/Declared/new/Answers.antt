use Rattle.carol_resolve.proofs.Along.{all-declared}
use Rattle.carol_resolve.proofs.declared.Declared.new.Goals as goal

pub returns-clause-names : goal.returns-clause-names
returns-clause-names c =
    all-declared c.args.op.now _ _ c.as_slice-param-items.result.now _ c.as_slice-param-items.ensures c.loop-param-test.false c.loop-param.invariant c.in_ok-push_body.ensures.names

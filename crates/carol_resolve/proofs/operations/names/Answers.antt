use Rattle.std.proofs.Common.{◌∙◌}
use Rattle.carol_resolve.proofs.Along.{all-named}
use Rattle.carol_resolve.proofs.operations.names.Goals as goal

pub returns : goal.returns
returns c =
    all-named c.args.op.now _ _ _ c.as_slice.result.now _ (c.in_ok-own.ensures ∙ c.bytes.ensures) c.as_slice.ensures c.in_ok-params.ensures c.in_ok-queries.ensures c.requires

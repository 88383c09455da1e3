use Rattle.std.proofs.Common.{ap, map, ◌∙◌}
use Rattle.carol_resolve.proofs.Along.{declared-noted}
use Rattle.carol_resolve.proofs.declared.note_declared.Goals as goal

pub returns : goal.returns
returns c =
    declared-noted c.args.op.now _ _ _ _ _ _ c.as_slice-2.result.now
    (ap (map (λ i. i.now)) c.as_slice.ensures.value ∙ c.requires.names)
    c.as_slice-2.ensures
    (ap (map (λ i. i.now)) c.as_slice-3.ensures.value ∙ c.requires.queries)
    c.in_ok-note_twice.ensures c.in_ok-note_too_many.ensures c.in_ok-note_too_many-2.ensures

use Rattle.std.proofs.Common.{◌∙◌}
use Rattle.carol_reading.proofs.Gathering.{gathers_can, gathers_end, effect-gathered}
use Rattle.carol_reading.proofs.effect.effect.Goals as goal

pub put_atom-requires-clause-can : goal.put_atom-requires-clause-can
put_atom-requires-clause-can g c = gathers_can c.loop-more.cell _ c.in-Some.more.now c.loop-more.invariant c.in-Some.ensures.cases.0

pub new-requires : goal.new-requires
new-requires g c = effect-gathered c.args.shape.now c.args.parts.now (g.L.Lookup.numbers c.args.at.now) c.as_slice.result.now (c.as_slice.ensures.items ∙ gathers_end c.loop-more.cell c.loop-more.left.now c.loop-more.invariant c.in_default.ensures.cases) c.requires.atoms

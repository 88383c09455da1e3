use Rattle.std.proofs.Common.{arith}
use Rattle.carol_difference.specs.Edges.{edge_at}
use Rattle.carol_difference.proofs.Relaxing.{extends, end_total, met, lighter}
use Rattle.carol_difference.proofs.forest.Forest.lighter.Goals as goal

pub overflow_add-total : goal.overflow_add-total
overflow_add-total c =
    (extends c.args.nodes c.args.edges.now c.args.self.now.entries.items c.args.self.now.latest.items c.args.number _ _ c.ranges.nodes.fits c.requires.ends c.requires.weights c.requires.edge c.requires.forest c.requires.shallow c.index-parent.ensures c.index-from.ensures).fits

pub overflow_add-result : goal.overflow_add-result
overflow_add-result c =
    let it = extends c.args.nodes c.args.edges.now c.args.self.now.entries.items c.args.self.now.latest.items c.args.number _ _ c.ranges.nodes.fits c.requires.ends c.requires.weights c.requires.edge c.requires.forest c.requires.shallow c.index-parent.ensures c.index-from.ensures in
    record { fits = omega (arith, it.depth, c.ranges.nodes.fits) }

pub returns-then-index-total-clause-none : goal.returns-then-index-total-clause-none
returns-then-index-total-clause-none c =
    let it = extends c.args.nodes c.args.edges.now c.args.self.now.entries.items c.args.self.now.latest.items c.args.number _ _ c.ranges.nodes.fits c.requires.ends c.requires.weights c.requires.edge c.requires.forest c.requires.shallow c.index-parent.ensures c.index-from.ensures in
    let old = end_total c.args.nodes c.args.edges.now c.args.self.now.entries.items c.args.self.now.latest.items (edge_at c.args.edges.now c.args.number).to _ _ c.ranges.nodes.fits c.requires.weights c.requires.forest c.requires.shallow it.node c.index-latest.ensures c.index.ensures in
    met _ _ _ _ c.index-from.result.now.total (edge_at c.args.edges.now c.args.number).weight c.if-index-total.true old it.sum it.total

pub returns-clause-some : goal.returns-clause-some
returns-clause-some c =
    let it = extends c.args.nodes c.args.edges.now c.args.self.now.entries.items c.args.self.now.latest.items c.args.number _ _ c.ranges.nodes.fits c.requires.ends c.requires.weights c.requires.edge c.requires.forest c.requires.shallow c.index-parent.ensures c.index-from.ensures in
    let old = end_total c.args.nodes c.args.edges.now c.args.self.now.entries.items c.args.self.now.latest.items (edge_at c.args.edges.now c.args.number).to _ _ c.ranges.nodes.fits c.requires.weights c.requires.forest c.requires.shallow it.node c.index-latest.ensures c.index.ensures in
    lighter c.args.nodes c.args.edges.now c.args.self.now.entries.items c.args.self.now.latest.items c.args.number _ c.index-from.result.now _ _ c.requires.edge it old it.sum c.if-index-total.false

use Rattle.std.proofs.Common.{◌≡◌, ◌≤◌, length, ap, sym, subst, ◌∙◌, arith}
use Rattle.std.proofs.lemmas.List.{take_all}
use Rattle.carol_difference.specs.Edges.{IsPotential}
use Rattle.carol_difference.proofs.Totals.{totals_of, totals_potential}
use Rattle.carol_difference.proofs.forest.Forest.totals.Goals as goal

pub returns : goal.returns
returns c =
    let done : length c.args.self.now.latest.items ≤ c.loop-entry.entry-index = omega (arith, c.loop-entry-test.false, ap length c.deref-entry-items.ensures.value) in
    let values : c.loop-entry.values.items ≡ totals_of c.args.self.now.entries.items c.args.self.now.latest.items =
    c.loop-entry.invariant ∙ ap (totals_of c.args.self.now.entries.items) (take_all c.loop-entry.entry-index c.args.self.now.latest.items done) in
    subst (IsPotential c.args.nodes c.args.edges.now) (sym values) (totals_potential c.args.nodes c.args.edges.now c.args.self.now.entries.items c.args.self.now.latest.items c.requires.ends c.requires.forest c.requires.shallow c.requires.meets)

use Rattle.std.proofs.Common.{◌≡◌, ◌<◌, ◌^◌, sym, subst, ap, ◌∙◌}
use Rattle.std.specs.Prelude.{ℤ, neg_ℤ, unsigned_abs}
use Rattle.std.proofs.lemmas.List.{get_or_read}
use Rattle.carol_formula.specs.declared.Row.{Row}
use Rattle.carol_difference.specs.Rows.{row_at}
use Rattle.carol_difference.specs.Split.{IsSplit}
use Rattle.carol_difference.proofs.Table.{graph_push, weight_is}
use Rattle.carol_difference.proofs.graph.Graph.add.Goals as goal

pub returns : goal.returns
returns c =
    let row : c.index-rows-number.result ≡ row_at c.args.rows.now c.args.number = get_or_read c.args.rows.now c.args.number c.index-rows-number.result c.requires.known c.index-rows-number.is _ in
    let split = subst (λ (r : Row). IsSplit r.0.pairs c.in-Some.sides.plus c.in-Some.sides.minus) row c.in-Some.ensures.some.1 in
    let read : c.rest.result ≡ c.index-rows-number.result.0.rest = assumption c.rest.ensures in
    let rest : c.rest.result ≡ (row_at c.args.rows.now c.args.number).0.rest = read ∙ ap (λ (r : Row). r.0.rest) row in
    let near : unsigned_abs c.rest.result < 2 ^ 92 = subst (λ (z : ℤ). unsigned_abs z < 2 ^ 92) (sym rest) (c.requires.narrow c.args.number _ c.requires.known).constant in
    rw (c.in_ok-push.ensures.items, c.in_ok-from.ensures.edges, c.in_ok-to.ensures.edges) (graph_push c.args.rows.now c.args.number c.args.self.now.numbers c.end-2.new.self.numbers c.args.self.now.variables.items c.end.new.self.variables.items c.end-2.new.self.variables.items c.args.self.now.edges.items c.in-Some.sides.plus c.in-Some.sides.minus _ c.requires.graph c.in_ok-from.ensures.table c.in_ok-to.ensures.grows c.in_ok-from.ensures.grows c.in_ok-to.ensures.node.0 c.in_ok-to.ensures.node.1 c.in_ok-from.ensures.node.0 c.in_ok-from.ensures.node.1 split (weight_is c.rest.result near ∙ ap neg_ℤ rest))

use Rattle.std.proofs.Common.{◌≡◌, ◌∙◌, ◌^◌, ◌<◌, length, arith}
use Rattle.carol_difference.proofs.Growing.{IsForest-push}
use Rattle.carol_difference.proofs.forest.Forest.add.Goals as goal

pub returns-clause-forest : goal.returns-clause-forest
returns-clause-forest c =
    let length_is : c.len.result ≡ length c.args.self.now.entries.items = c.len.ensures ∙ c.args.self.now.entries.ok.0 in
    let number : c.in-Ok.number ≡ length c.args.self.now.entries.items = c.in-Ok.ensures.1 ∙ length_is in
    let few : length c.args.self.now.entries.items < 2 ^ 32 = omega (arith, length_is, c.in-Ok.ensures.0) in
    let grown = IsForest-push c.args.nodes c.args.edges.now c.args.self.now.entries.items c.args.self.now.latest.items c.args.entry c.requires.forest c.requires.lighter few in
    rw (c.in_ok-push.ensures.items, number) grown

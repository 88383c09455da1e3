use Rattle.std.proofs.Common.{rules, ◌≡◌, arith}
use Rattle.std.specs.Prelude.{◌≤ℤ◌}
use Rattle.std.proofs.lemmas.Int.{ints}
use Rattle.carol_elimination.proofs.Extending.{inside_at, left_out_at}
use Rattle.carol_elimination.proofs.stage.Stage.compared.Goals as goal

pub row-other-requires : goal.row-other-requires
row-other-requires c = inside_at c.args.arena.now c.args.self.now.rows.items c.args.place _ c.requires.inside c.requires.known c.index.ensures

pub returns-then-rest : goal.returns-then-rest
returns-then-rest c =
    let same : c.args.row.now.pairs ≡ c.row-other.result.now.pairs = search rules in
    let tighter : c.args.row.now.rest ≤ℤ c.row-other.result.now.rest = omega (arith, ints, c.rest.ensures.value, c.rest-else-not-same_coefficients.ensures.value, c.if-rest.true) in
    left_out_at c.args.arena.now c.args.self.now.rows.items c.args.place c.index.result.now c.args.row.now c.row-other.result.now c.requires.known c.index.ensures c.row-other.ensures same tighter

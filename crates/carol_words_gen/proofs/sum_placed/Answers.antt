use Rattle.std.proofs.Common.{◌≡◌, rules}
use Rattle.std.specs.Prelude.{Err}
use Rattle.carol_reply.specs.Reply.{answer_of}
use Rattle.carol_words_gen.specs.Gen.{IsSummed, SceneSums}
use Rattle.carol_words.proofs.Opened.{ends_err, ends_none, fresh_said, not_fresh}
use Rattle.carol_words_gen.proofs.sum_placed.Goals as goal

pub returns-in_err-house : goal.returns-in_err-house
returns-in_err-house g c =
    let halt = c.in_err-house.field-0.0 in
    let is : c.from_residual.result ≡ Err halt = search rules in
    ends_err (SceneSums c.args.count tt c.args.placed.program c.args.placed.scene) halt c.from_residual.result is
    (not_fresh (λ kept. IsSummed c.args.count kept c.args.placed.scene) c.args.placed.program halt c.in_err-house.ensures.told)

pub returns : goal.returns
returns g c =
    fresh_said (IsSummed c.args.count) c.args.placed.program c.args.placed.scene c.in_ok-house.house (answer_of c.in_ok-sum_house.field-0) c.in_ok-house.ensures.fresh c.in_ok-sum_house.ensures

pub returns-in_err-sum_house : goal.returns-in_err-sum_house
returns-in_err-sum_house g c =
    ends_none (SceneSums c.args.count tt c.args.placed.program c.args.placed.scene) c.from_residual-in_err-sum_house.result c.from_residual-in_err-sum_house.ensures.1

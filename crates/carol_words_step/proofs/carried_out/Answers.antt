use Rattle.std.proofs.Common.{◌≡◌, rules}
use Rattle.std.specs.Prelude.{Err}
use Rattle.carol_reply.specs.Reply.{answer_of}
use Rattle.carol_words_step.specs.Step.{IsPlayed, ScriptSays}
use Rattle.carol_words.proofs.Opened.{ends_err, ends_none, fresh_said, not_fresh}
use Rattle.carol_words_step.proofs.carried_out.Goals as goal

pub returns-in_err-house : goal.returns-in_err-house
returns-in_err-house g c =
    let halt = c.in_err-house.field-0.0 in
    let is : c.from_residual.result ≡ Err halt = search rules in
    ends_err (ScriptSays c.args.script.now c.args.placed.program c.args.placed.scene) halt c.from_residual.result is
    (not_fresh (λ kept. IsPlayed c.args.script.now kept c.args.placed.scene) c.args.placed.program halt c.in_err-house.ensures.told)

pub returns : goal.returns
returns g c =
    fresh_said (IsPlayed c.args.script.now) c.args.placed.program c.args.placed.scene c.in_ok-house.house (answer_of c.in_ok-play.field-0) c.in_ok-house.ensures.fresh c.in_ok-play.ensures

pub returns-in_err-play : goal.returns-in_err-play
returns-in_err-play g c =
    ends_none (ScriptSays c.args.script.now c.args.placed.program c.args.placed.scene) c.from_residual-in_err-play.result c.from_residual-in_err-play.ensures.1

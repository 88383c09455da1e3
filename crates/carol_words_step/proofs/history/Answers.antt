use Rattle.std.proofs.Common.{◌≡◌, rules}
use Rattle.std.specs.Prelude.{Err, codes}
use Rattle.carol_prepare.specs.Parts.{with_script}
use Rattle.carol_prepare.proofs.Told.{parts_before, parts_said}
use Rattle.carol_words_step.specs.Step.{ScriptSays, StepSays}
use Rattle.carol_words.proofs.Opened.{ends_err, ends_more}
use Rattle.carol_words_step.proofs.history.Goals as goal

pub returns-in_err-taken : goal.returns-in_err-taken
returns-in_err-taken g c =
    let halt = c.in_err-taken.field-0.0 in
    let is : c.from_residual.result ≡ Err halt = search rules in
    ends_err (StepSays c.args.bytes.now) halt c.from_residual.result is
    (parts_before (codes "step") with_script ScriptSays c.args.bytes.now halt c.in_err-taken.ensures.told)

pub returns : goal.returns
returns g c =
    let taken = c.in_ok-taken.taken in
    ends_more (ScriptSays taken.script taken.placed.program taken.placed.scene) (StepSays c.args.bytes.now)
    (λ answer h. parts_said (codes "step") with_script ScriptSays c.args.bytes.now taken.script taken.placed.program taken.placed.scene answer c.in_ok-taken.ensures.parts h)
    c.carried_out.result c.carried_out.ensures

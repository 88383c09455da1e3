use Rattle.std.proofs.Common.{◌≡◌, rules}
use Rattle.std.specs.Prelude.{Err, codes}
use Rattle.carol_keep.specs.Keep.{KeepSays, ScriptKeeps}
use Rattle.carol_keep.proofs.Ended.{ends_err, ends_more}
use Rattle.carol_keep.proofs.word.history.Goals as goal
use Rattle.carol_prepare.specs.Parts.{with_script}
use Rattle.carol_prepare.proofs.Told.{parts_before, parts_said}

pub returns-in_err-taken : goal.returns-in_err-taken
returns-in_err-taken g c =
    let halt = c.in_err-taken.field-0.0 in
    let is : c.from_residual.result ≡ Err halt = search rules in
    ends_err (KeepSays c.args.stop c.args.bytes.now) halt c.from_residual.result is
    (parts_before (codes "keep") with_script (ScriptKeeps c.args.stop) c.args.bytes.now halt c.in_err-taken.ensures.told)

pub returns : goal.returns
returns g c =
    let taken = c.in_ok-taken.taken in
    ends_more (ScriptKeeps c.args.stop taken.script taken.placed.program taken.placed.scene) (KeepSays c.args.stop c.args.bytes.now)
    (λ answer h. parts_said (codes "keep") with_script (ScriptKeeps c.args.stop) c.args.bytes.now taken.script taken.placed.program taken.placed.scene answer c.in_ok-taken.ensures.parts h)
    c.carried_out.result c.carried_out.ensures

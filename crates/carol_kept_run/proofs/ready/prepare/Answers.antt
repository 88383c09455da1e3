use Rattle.std.proofs.Common.{◌≡◌, rules}
use Rattle.std.specs.Prelude.{Err, codes}
use Rattle.carol_prepare.specs.Parts.{PartsSay}
use Rattle.carol_prepare.specs.Verdicts.{IsToldRefused}
use Rattle.carol_prepare.proofs.Told.{err_map, parts_before, parts_said, told_err}
use Rattle.carol_reply.specs.Reply.{HaltSays}
use Rattle.carol_reply.proofs.Agreeing.{halt_map}
use Rattle.carol_kept_run.specs.Asked.{Refused, with_any_script}
use Rattle.carol_kept_run.proofs.Askings.{asked_of}
use Rattle.carol_kept_run.proofs.ready.prepare.Goals as goal

pub returns-in_err-taken-clause-told : goal.returns-in_err-taken-clause-told
returns-in_err-taken-clause-told g c =
    let halt = c.in_err-taken.field-0.0 in
    let is : c.from_residual.result ≡ Err halt = search rules in
    told_err (HaltSays (PartsSay (codes "carol_kept") with_any_script Refused c.args.bytes.now)) halt c.from_residual.result is
    (parts_before (codes "carol_kept") with_any_script Refused c.args.bytes.now halt c.in_err-taken.ensures.told)

pub returns-clause-told : goal.returns-clause-told
returns-clause-told g c =
    let taken = c.in_ok-taken.taken in
    err_map (HaltSays (IsToldRefused taken.placed.program)) (HaltSays (PartsSay (codes "carol_kept") with_any_script Refused c.args.bytes.now))
    (λ halt. halt_map (IsToldRefused taken.placed.program) (PartsSay (codes "carol_kept") with_any_script Refused c.args.bytes.now)
    (λ answer h. parts_said (codes "carol_kept") with_any_script Refused c.args.bytes.now taken.script taken.placed.program taken.placed.scene answer c.in_ok-taken.ensures.parts h) halt)
    c.judged.result c.judged.ensures.told

pub returns-clause-asked : goal.returns-clause-asked
returns-clause-asked g c =
    let taken = c.in_ok-taken.taken in
    asked_of c.args.bytes.now taken.placed.program taken.placed.scene taken.script c.judged.result c.in_ok-taken.ensures.parts c.judged.ensures.kept c.judged.ensures.scene c.judged.ensures.script

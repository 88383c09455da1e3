use Rattle.std.proofs.Common.{◌≡◌, rules}
use Rattle.std.specs.Prelude.{Err}
use Rattle.carol_prepare.specs.Verdicts.{VerdictSays}
use Rattle.carol_prepare.proofs.Told.{program_before}
use Rattle.carol_advise_word.specs.Advise.{AdviseSays, NameSays}
use Rattle.carol_advise_word.proofs.Advising.{kept_said, not_advised}
use Rattle.carol_advise_word.proofs.Ending.{ends_err, ends_more}
use Rattle.carol_advise_word.proofs.word.answer.Goals as goal

pub returns-in_err-program : goal.returns-in_err-program
returns-in_err-program g c =
    let halt = c.in_err-program.field-0.0 in
    let is : c.from_residual.result ≡ Err halt = search rules in
    ends_err (AdviseSays c.args.name.now c.args.bytes.now) halt c.from_residual.result is
    (program_before (VerdictSays (NameSays c.args.name.now)) c.args.bytes.now halt c.in_err-program.ensures.told)

pub returns-in_err-kept : goal.returns-in_err-kept
returns-in_err-kept g c =
    let halt = c.in_err-kept.field-0.0 in
    let is : c.from_residual-in_err-kept.result ≡ Err halt = search rules in
    ends_err (AdviseSays c.args.name.now c.args.bytes.now) halt c.from_residual-in_err-kept.result is
    (not_advised c.args.name.now c.args.bytes.now c.in_ok-program.program halt c.in_ok-program.ensures.program c.in_err-kept.ensures.told)

pub returns : goal.returns
returns g c =
    ends_more (NameSays c.args.name.now c.in_ok-kept.kept) (AdviseSays c.args.name.now c.args.bytes.now)
    (λ answer h. kept_said c.args.name.now c.args.bytes.now c.in_ok-program.program c.in_ok-kept.kept answer c.in_ok-program.ensures.program c.in_ok-kept.ensures.kept h)
    c.named.result c.named.ensures

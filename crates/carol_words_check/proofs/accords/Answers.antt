use Rattle.std.proofs.Common.{◌≡◌, ap, inr, rules}
use Rattle.std.specs.Prelude.{Err}
use Rattle.carol_prepare.specs.Verdicts.{VerdictSays}
use Rattle.carol_prepare.proofs.Told.{program_before, program_said}
use Rattle.carol_reply.specs.declared.status.Status.TheVariants as status
use Rattle.carol_words_check.specs.Check.{CheckSays, IsAccorded}
use Rattle.carol_words_check.proofs.Checked.{not_accorded}
use Rattle.carol_words.proofs.Opened.{ends_err, ends_none}
use Rattle.carol_words_check.proofs.accords.Goals as goal

pub returns-in_err-program : goal.returns-in_err-program
returns-in_err-program g c =
    let halt = c.in_err-program.field-0.0 in
    let is : c.from_residual.result ≡ Err halt = search rules in
    ends_err (CheckSays c.args.bytes.now) halt c.from_residual.result is
    (program_before (VerdictSays IsAccorded) c.args.bytes.now halt c.in_err-program.ensures.told)

pub returns-in_err-kept : goal.returns-in_err-kept
returns-in_err-kept g c =
    let halt = c.in_err-kept.field-0.0 in
    let is : c.from_residual-in_err-kept.result ≡ Err halt = search rules in
    ends_err (CheckSays c.args.bytes.now) halt c.from_residual-in_err-kept.result is
    (not_accorded c.args.bytes.now c.in_ok-program.program halt c.in_ok-program.ensures.program c.in_err-kept.ensures.told)

pub returns : goal.returns
returns g c =
    program_said (VerdictSays IsAccorded) c.args.bytes.now c.in_ok-program.program (status.Ok, c.in_ok-text.text.items) c.in_ok-program.ensures.program
    (inr (record { kept = c.in_ok-kept.kept; is_kept = c.in_ok-kept.ensures.kept; says = ap (λ t. (status.Ok, t)) c.in_ok-text.ensures }))

pub returns-in_err-text : goal.returns-in_err-text
returns-in_err-text g c =
    ends_none (CheckSays c.args.bytes.now) c.from_residual-in_err-text.result c.from_residual-in_err-text.ensures.1

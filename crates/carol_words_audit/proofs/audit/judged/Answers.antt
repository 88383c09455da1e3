use Rattle.std.proofs.Common.{◌≡◌, ◌+◌, ap, rules}
use Rattle.std.specs.Prelude.{Err, codes}
use Rattle.carol_prepare.specs.Parts.{with_tail}
use Rattle.carol_prepare.proofs.Told.{parts_before}
use Rattle.carol_words_audit.specs.Audit.{AuditSays, OffsetSays}
use Rattle.carol_words_audit.proofs.Audited.{tail_said}
use Rattle.carol_words.proofs.Opened.{ends_err}
use Rattle.carol_words_audit.proofs.audit.judged.Goals as goal

pub returns-in_err-taken : goal.returns-in_err-taken
returns-in_err-taken g c =
    let halt = c.in_err-taken.field-0.0 in
    let is : c.from_residual.result ≡ Err halt = search rules in
    ends_err (AuditSays c.args.bytes.now) halt c.from_residual.result is
    (parts_before (codes "audit") with_tail (OffsetSays c.args.bytes.now) c.args.bytes.now halt c.in_err-taken.ensures.told)

pub returns : goal.returns
returns g c =
    let taken = c.in_ok-taken.taken in
    tail_said c.args.bytes.now taken.offset c.cut.result.0.now c.cut.result.1.now (c.feeds_in.result + 1) taken.placed.program taken.placed.scene c.audit_tail.result
    c.in_ok-taken.ensures.parts c.cut.ensures.front c.cut.ensures.tail (ap (λ n. n + 1) c.feeds_in.ensures.count) c.audit_tail.ensures

use Rattle.std.proofs.Common.{◌≡◌, rules}
use Rattle.std.specs.Prelude.{Err}
use Rattle.carol_reply.specs.Reply.{answer_of}
use Rattle.carol_words_audit.specs.Audit.{TailSays}
use Rattle.carol_words_audit.proofs.Audited.{tail_audited, tail_before, tail_refused}
use Rattle.carol_words.proofs.Opened.{ends_err, ends_none}
use Rattle.carol_words_audit.proofs.audit.audit_tail.Goals as goal

pub returns-in_err-events : goal.returns-in_err-events
returns-in_err-events g c =
    let halt = c.in_err-events.field-0.0 in
    let is : c.from_residual.result ≡ Err halt = search rules in
    ends_err (TailSays c.args.tail.now c.args.line c.args.placed.program c.args.placed.scene) halt c.from_residual.result is
    (tail_before c.args.tail.now c.args.line c.args.placed.program c.args.placed.scene halt c.in_err-events.ensures.told)

pub returns-in_err-kept : goal.returns-in_err-kept
returns-in_err-kept g c =
    let halt = c.in_err-kept.field-0.0 in
    let is : c.from_residual-in_err-kept.result ≡ Err halt = search rules in
    ends_err (TailSays c.args.tail.now c.args.line c.args.placed.program c.args.placed.scene) halt c.from_residual-in_err-kept.result is
    (tail_refused c.args.tail.now c.args.line c.args.placed.program c.args.placed.scene c.in_ok-events.events.items halt c.in_ok-events.ensures.events c.in_err-kept.ensures.told)

pub returns : goal.returns
returns g c =
    tail_audited c.args.tail.now c.args.line c.args.placed.program c.args.placed.scene c.in_ok-events.events.items c.in_ok-kept.kept (answer_of c.in_ok-find.field-0)
    c.in_ok-events.ensures.events c.in_ok-kept.ensures.kept c.in_ok-find.ensures

pub returns-in_err-find : goal.returns-in_err-find
returns-in_err-find g c =
    ends_none (TailSays c.args.tail.now c.args.line c.args.placed.program c.args.placed.scene) c.from_residual-in_err-find.result c.from_residual-in_err-find.ensures.1

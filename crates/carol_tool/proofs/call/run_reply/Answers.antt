use Rattle.std.proofs.Common.{◌≡◌, ◌<◌, length, ap, rules}
use Rattle.std.specs.Prelude.{Err}
use Rattle.carol_reply.specs.Reply.{answer_of, outcome_answer}
use Rattle.carol_reply.specs.Texts.{stop_answer, stop_of}
use Rattle.carol_syntax.specs.Limits.{most_text_bytes}
use Rattle.carol_tool.specs.declared.command.Command.TheVariants as command
use Rattle.carol_tool.proofs.Meaning.{meant_by_error, meant_by_reply, within_from}
use Rattle.carol_tool.proofs.call.run_reply.Goals as goal

pub returns : goal.returns
returns g c =
    let all = c.in_ok-bytes.ensures.given in
    let fits : most_text_bytes < length all.0 → ⊥ = λ more. (let e = all.3.1 more in cc) in
    let same : c.deref.result.now ≡ all.0 = search rules in
    meant_by_reply _ _ all.0 _ command.Run (answer_of c.in_ok-run_bytes.field-0) (λ none. none) all.1 (within_from _ _ fits) same c.in_ok-bytes.ensures.end c.in_ok-bytes.ensures.counted c.in_ok-run_bytes.ensures

pub returns-in_err-bytes : goal.returns-in_err-bytes
returns-in_err-bytes g c =
    let given = c.in_err-bytes.ensures.given in
    let said : outcome_answer c.from_residual.result ≡ stop_answer (stop_of c.in_err-bytes.field-0.0) = search rules in
    meant_by_error _ _ given.0 command.Run c.in_err-bytes.field-0.0 _ said (λ none. none) given.1 (λ more. (let e = given.3.1 more in cc)) (λ e. given.3.0 (ap Err e)) (λ e. c.in_err-bytes.ensures.fault (ap Err e)) c.in_err-bytes.ensures.counted

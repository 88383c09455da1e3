use Rattle.std.proofs.Common.{◌≡◌, ◌+◌, ◌*◌, ◌∙◌, zero-mul, arith}
use Rattle.std.specs.String.{string_bytes}
use Rattle.carol_generator.specs.Generated.{generated_text}
use Rattle.carol_generator.specs.Layout.{head_text}
use Rattle.carol_generator.proofs.Generating.{generated_end, no_number, no_session, session_more}
use Rattle.carol_generator.proofs.Short.{generated_short}
use Rattle.carol_generator.proofs.generator.generate.Goals as goal

pub loop-session-init : goal.loop-session-init
loop-session-init c =
    (c.in_ok-push_head.ensures ∙ rw c.new-text.ensures.bytes (no_session c.args.n head_text), rw zero-mul (no_number c.args.n), omega arith)

pub loop-session-preserved : goal.loop-session-preserved
loop-session-preserved c =
    let n = c.args.n
    in let s = c.loop-session.session
    in let next : (s + 1) * n ≡ s * n + n = grind arith
    in (rw (c.in_ok-last.ensures.text, c.loop-session.invariant.0) (session_more n s head_text), rw next c.in_ok-last.ensures.last, c.in_ok-last.ensures.low)

whole : (c : goal.After-into_bytes) → c.into_bytes.result.items ≡ generated_text c.args.n
whole c =
    rw c.into_bytes.ensures.value
    (generated_end c.args.n c.loop-session.session (string_bytes c.loop-session.text) (string_bytes c.writeln.new.self) (omega arith) c.loop-session.invariant.0 c.in_ok-writeln.ensures.bytes)

pub returns-clause-text : goal.returns-clause-text
returns-clause-text c = whole c

pub returns-clause-short : goal.returns-clause-short
returns-clause-short c = rw (whole c) (generated_short c.args.n c.requires.few)

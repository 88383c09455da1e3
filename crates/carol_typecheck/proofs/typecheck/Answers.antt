use Rattle.std.proofs.Common.{[], IfOk}
use Rattle.carol_program.specs.Rules.{rules_in}
use Rattle.carol_obligation.specs.Places.{obligations_of}
use Rattle.carol_typecheck.specs.Formulas.{IsVerdictOn}
use Rattle.carol_typecheck.specs.Readings.{IsVerdictFor}
use Rattle.carol_typecheck.proofs.Meaning.{verdict_over, fails_where_bad}
use Rattle.carol_typecheck.proofs.Settling.{found_none, verdict_all}
use Rattle.carol_typecheck.proofs.typecheck.Goals as goal

pub returns : goal.returns
returns g c =
    let p = rules_in c.args.program.now in
    let start = c.new-decider in
    let end = c.walk_all.new.collector in
    let told : IfOk c.verdict.result (IsVerdictOn (obligations_of p)) = verdict_all c.verdict.result end.found end.batch (obligations_of p) (c.in_ok-walk_all.ensures [] (found_none start.result.found start.result.batch start.ensures.found start.ensures.batch)) c.verdict.ensures in
    let means : IfOk c.verdict.result (IsVerdictFor p) = verdict_over p c.requires 0 p.ops c.requires.ops c.verdict.result told in
    record { verdict = means; fails = fails_where_bad p c.requires 0 p.ops c.requires.ops c.verdict.result means }

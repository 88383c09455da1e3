use Rattle.carol_typecheck.proofs.Scanning.{judging_end, judging_more, judging_found}
use Rattle.carol_typecheck.proofs.Settling.{not_good}
use Rattle.carol_typecheck.proofs.judge.judge_all.Goals as goal

pub loop-first-preserved : goal.loop-first-preserved
loop-first-preserved c =
    judging_more c.args.obligations.now c.loop-first.left.now _ _ c.in_ok-verdict.verdict c.in-Some.ensures.cases.0 (c.is_good.ensures.0 c.if-not-is_good.false) c.in_ok-verdict.ensures c.loop-first.invariant

pub returns-then-not-is_good : goal.returns-then-not-is_good
returns-then-not-is_good c =
    judging_found c.args.obligations.now c.loop-first.left.now _ _ c.in_ok-verdict.verdict c.in-Some.ensures.cases.0 (not_good c.is_good.result c.in_ok-verdict.verdict c.is_good.ensures c.if-not-is_good.true) c.in_ok-verdict.ensures c.loop-first.invariant

pub returns : goal.returns
returns c = judging_end c.args.obligations.now c.loop-first.left.now c.loop-first.invariant c.in_default.ensures.cases

use Rattle.carol_typecheck.proofs.Scanning.{verdict_as}
use Rattle.carol_typecheck.proofs.batch.Batch.verdict.Goals as goal

pub returns-then-self-lt-LEAST_SHARED : goal.returns-then-self-lt-LEAST_SHARED
returns-then-self-lt-LEAST_SHARED g c =
    verdict_as c.args.self.now c.self.inside.waiting.items c.as_slice.result.now c.judge_all.result c.as_slice.ensures.value c.self.view_is c.judge_all.ensures

pub returns : goal.returns
returns g c =
    verdict_as c.args.self.now c.self.inside.waiting.items c.as_slice-2.result.now c.judge_shared.result c.as_slice-2.ensures.value c.self.view_is c.judge_shared.ensures

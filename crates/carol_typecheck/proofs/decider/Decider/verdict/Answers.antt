use Rattle.carol_typecheck.proofs.Settling.{decided_rest}
use Rattle.carol_typecheck.proofs.decider.Decider.verdict.Goals as goal

pub returns-then-is_good : goal.returns-then-is_good
returns-then-is_good g c =
    decided_rest c.verdict.result c.args.self.found c.args.self.batch (c.is_good.ensures.0 c.if-is_good.true) c.verdict.ensures

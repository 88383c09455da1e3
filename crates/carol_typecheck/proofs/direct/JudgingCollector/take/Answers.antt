use Rattle.std.proofs.Common.{[], ◌∷◌}
use Rattle.carol_formula.specs.Tree.{claim_of}
use Rattle.carol_typecheck.proofs.Settling.{judged_next, judged_stays, not_good}
use Rattle.carol_typecheck.proofs.direct.JudgingCollector.take.Goals as goal

pub returns-then-not-is_good : goal.returns-then-not-is_good
returns-then-not-is_good c =
    judged_stays c.args.self.now.found ((c.args.place, claim_of c.args.formula) ∷ []) (not_good c.is_good.result c.args.self.now.found c.is_good.ensures c.if-not-is_good.true)

pub returns : goal.returns
returns c =
    judged_next c.args.self.now.found c.in_ok-self.field-0 (record { place = c.args.place; formula = c.args.formula }) (c.is_good.ensures.0 c.if-not-is_good.false) c.in_ok-self.ensures

use Rattle.std.proofs.Common.{[], ◌∷◌}
use Rattle.carol_formula.specs.Tree.{claim_of}
use Rattle.carol_typecheck.proofs.Settling.{not_good, found_stays, taken_full}
use Rattle.carol_typecheck.proofs.decider.DeciderCollector.take.Goals as goal

pub returns-then-not-is_good : goal.returns-then-not-is_good
returns-then-not-is_good g c = λ taken.
    found_stays c.args.self.now.found c.args.self.now.batch taken ((c.args.place, claim_of c.args.formula) ∷ []) (not_good c.is_good.result c.args.self.now.found c.is_good.ensures c.if-not-is_good.true)

pub returns-in_ok-self : goal.returns-in_ok-self
returns-in_ok-self g c =
    taken_full c.args.self.now.found c.in_ok-self.field-0 c.args.self.now.batch c.push.new.self c.clear.new.self (record { place = c.args.place; formula = c.args.formula }) (c.is_good.ensures.0 c.if-not-is_good.false) c.in_ok-push.ensures c.in_ok-self.ensures c.clear.ensures

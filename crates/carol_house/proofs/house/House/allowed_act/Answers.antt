use Rattle.std.proofs.lemmas.Bool.{false≢true}
use Rattle.carol_house.specs.House.{House, rules_of}
use Rattle.carol_house.proofs.Admitting.{other_illegal}
use Rattle.carol_house.proofs.house.House.allowed_act.Goals as goal

pub returns-then-not-is_same-clause-allowed : goal.returns-then-not-is_same-clause-allowed
returns-then-not-is_same-clause-allowed c =
    let h : House = c.args.self.now
    in other_illegal (rules_of h) h.scene c.args.session c.in-Some.forced c.args.event.now h.history (c.history_laws.ensures.single (rules_of h) h.scene h.history) c.in-Some.ensures.forced c.requires
    (λ e. false≢true (c.if-not-is_same.ensures.1 e))

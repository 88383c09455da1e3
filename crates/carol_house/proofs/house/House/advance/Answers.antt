use Rattle.std.proofs.Common.{subst}
use Rattle.carol_program.specs.Scenes.{IsValidScene}
use Rattle.carol_history.specs.Legal.{Legal}
use Rattle.carol_house.specs.House.{House, rules_of}
use Rattle.carol_house.proofs.Moving.{legal_after}
use Rattle.carol_house.proofs.house.House.advance.Goals as goal

pub enter-requires-clause-legal : goal.enter-requires-clause-legal
enter-requires-clause-legal c =
    let old : House = c.args.self.now
    in let valid : IsValidScene (rules_of old) old.scene = subst (λ (x : House). IsValidScene (rules_of x) x.scene) c.next.ensures.same c.scene-valid.ensures.valid
    in let legal : Legal (rules_of old) old.scene c.in-Some.event old.history = c.history_laws.ensures.forced (rules_of old) old.scene old.history valid c.args.session c.in-Some.event c.in-Some.ensures.forced
    in legal_after c.next.new.self c.make_way.new.self c.in-Some.event c.make_way.ensures.rests (rw c.next.ensures.same legal)

use Rattle.std.proofs.Common.{sym, subst, arith}
use Rattle.std.specs.Prelude.{vec_capacity}
use Rattle.carol_history.specs.Legal.{Legal}
use Rattle.carol_house.specs.House.{House, house_of, rules_of}
use Rattle.carol_house.specs.Moves.{link_event}
use Rattle.carol_house.proofs.Entering.{kept_after}
use Rattle.carol_house.proofs.Eventful.{tables_link}
use Rattle.carol_house.proofs.house.House.set_link.Goals as goal

pub invariant_of-self : goal.invariant_of-self
invariant_of-self c =
    let s = c.self.inside
    in let h : House = house_of s.accepted s.scene s.events.items s.spare
    in kept_after s.accepted s.scene s.events.items c.push_reserved.new.self.items s.spare s.tables _ (vec_capacity s.events) (vec_capacity c.push_reserved.new.self) (link_event c.args.a c.args.b c.args.up)
    c.self.invariant (subst (λ (x : House). Legal (rules_of x) x.scene (link_event c.args.a c.args.b c.args.up) x.history) (sym c.self.view_is) c.requires.legal) (rw (← c.self.view_is) at c.requires.few) (rw (← c.self.view_is) at c.requires.room) (rw c.link_event.ensures at c.push_reserved.ensures.items)
    (tables_link _ _ s.scene h.history s.tables c.self.invariant.tables c.args.a c.args.b c.args.up c.set.new.self c.set.ensures)
    (omega arith) (omega arith) (omega arith)

use Rattle.std.proofs.Common.{refl, arith}
use Rattle.std.specs.Prelude.{vec_capacity}
use Rattle.carol_event.specs.declared.event.Event.TheVariants.{Grant}
use Rattle.carol_history.specs.Acts.{Granted}
use Rattle.carol_house.specs.House.{House, house_of}
use Rattle.carol_house.proofs.Entering.{kept_after, machine_there}
use Rattle.carol_house.proofs.Eventful.{tables_grant}
use Rattle.carol_house.proofs.house.House.grant.Goals as goal

pub invariant_of-self : goal.invariant_of-self
invariant_of-self c =
    let s = c.self.inside
    in let h : House = house_of s.accepted s.scene s.events.items s.spare
    in let legal = rw (← c.self.view_is) at c.requires.legal
    in let at = machine_there h s.tables (vec_capacity s.events) c.args.session c.index_mut.result.now c.self.invariant legal.next.way c.index_mut.ensures.value
    in kept_after s.accepted s.scene s.events.items c.push_reserved.new.self.items s.spare s.tables _ (vec_capacity s.events) (vec_capacity c.push_reserved.new.self) (Grant c.args.session c.args.guard)
    c.self.invariant legal (rw (← c.self.view_is) at c.requires.few) (rw (← c.self.view_is) at c.requires.room) c.push_reserved.ensures.items
    (tables_grant _ _ s.scene h.history s.tables c.self.invariant.tables c.args.session c.index_mut.result.now c.feed.new.self at (c.history_laws.ensures.live h.history) c.args.guard c.grant.new.self
    (record { plan = c.feed.ensures.plan; tries = c.feed.ensures.tries; stands = λ done before. c.feed.ensures.stands (Granted c.args.guard) done refl before }) c.grant.ensures)
    (omega arith) (omega arith) (omega arith)

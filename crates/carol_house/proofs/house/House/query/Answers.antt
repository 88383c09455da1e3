use Rattle.std.proofs.Common.{◌≡◌, sym, arith}
use Rattle.std.specs.Prelude.{vec_capacity, Some, slice_get}
use Rattle.carol_reading.specs.Marks.{Asked}
use Rattle.carol_event.specs.declared.event.Event.TheVariants.{Query}
use Rattle.carol_history.specs.Acts.{Did}
use Rattle.carol_house.specs.House.{House, house_of}
use Rattle.carol_house.proofs.Entering.{may_follow, kept_after, machine_there}
use Rattle.carol_house.proofs.Eventful.{tables_query}
use Rattle.carol_house.proofs.house.House.query.Goals as goal

pub feed-requires : goal.feed-requires
feed-requires c =
    let s = c.self.inside
    in let h : House = house_of s.accepted s.scene s.events.items s.spare
    in let legal = rw (← c.self.view_is) at c.requires.legal
    in let at : slice_get s.tables.machines.items c.args.session ≡ Some c.index_mut.result.now = machine_there h s.tables (vec_capacity s.events) c.args.session c.index_mut.result.now c.self.invariant legal.next.way c.index_mut.ensures.value
    in rw c.copy.ensures (c.args.guard, may_follow h s.tables (vec_capacity s.events) c.args.session c.index_mut.result.now (Asked c.args.guard c.args.store) c.self.invariant at legal.next)

pub invariant_of-self : goal.invariant_of-self
invariant_of-self c =
    let s = c.self.inside
    in let h : House = house_of s.accepted s.scene s.events.items s.spare
    in let legal = rw (← c.self.view_is) at c.requires.legal
    in let at : slice_get s.tables.machines.items c.args.session ≡ Some c.index_mut.result.now = machine_there h s.tables (vec_capacity s.events) c.args.session c.index_mut.result.now c.self.invariant legal.next.way c.index_mut.ensures.value
    in kept_after s.accepted s.scene s.events.items c.push_reserved.new.self.items s.spare s.tables _ (vec_capacity s.events) (vec_capacity c.push_reserved.new.self) (Query c.args.session c.args.guard c.args.store)
    c.self.invariant legal (rw (← c.self.view_is) at c.requires.few) (rw (← c.self.view_is) at c.requires.room) c.push_reserved.ensures.items
    (tables_query _ _ s.scene h.history s.tables c.self.invariant.tables c.args.session c.index_mut.result.now c.feed.new.self at (c.history_laws.ensures.live h.history) c.args.guard c.args.store (record { plan = c.feed.ensures.plan; tries = c.feed.ensures.tries; stands = λ done before. c.feed.ensures.stands (Did (Asked c.args.guard c.args.store)) done (sym c.copy.ensures) before }))
    (omega arith) (omega arith) (omega arith)

use Rattle.std.proofs.Common.{◌≡◌, arith}
use Rattle.std.specs.Prelude.{vec_capacity, Some, slice_get}
use Rattle.std.proofs.lemmas.Option.{slice_get_within}
use Rattle.carol_reading.specs.Marks.{Released}
use Rattle.carol_event.specs.declared.event.Event.TheVariants.{Release}
use Rattle.carol_history.specs.Acts.{Did}
use Rattle.carol_house.specs.House.{House, house_of}
use Rattle.carol_house.proofs.Entering.{may_follow, kept_after, machine_there}
use Rattle.carol_house.proofs.Eventful.{tables_release}
use Rattle.carol_house.proofs.house.House.release.Goals as goal

pub feed-requires : goal.feed-requires
feed-requires c =
    let s = c.self.inside
    in let h : House = house_of s.accepted s.scene s.events.items s.spare
    in let legal = rw (← c.self.view_is) at c.requires.legal
    in let at : slice_get s.tables.machines.items c.args.session ≡ Some c.index_mut.result.now = machine_there h s.tables (vec_capacity s.events) c.args.session c.index_mut.result.now c.self.invariant legal.way c.index_mut.ensures.value
    in may_follow h s.tables (vec_capacity s.events) c.args.session c.index_mut.result.now (Released) c.self.invariant at legal

pub close-requires : goal.close-requires
close-requires c =
    let s = c.self.inside
    in let h : House = house_of s.accepted s.scene s.events.items s.spare
    in let legal = rw (← c.self.view_is) at c.requires.legal
    in let at : slice_get s.tables.machines.items c.args.session ≡ Some c.index_mut.result.now = machine_there h s.tables (vec_capacity s.events) c.args.session c.index_mut.result.now c.self.invariant legal.way c.index_mut.ensures.value
    in rw (c.self.invariant.tables.grants_each, ← c.self.invariant.tables.machine_each) (slice_get_within s.tables.machines.items c.args.session c.index_mut.result.now at)

pub invariant_of-self : goal.invariant_of-self
invariant_of-self c =
    let s = c.self.inside
    in let h : House = house_of s.accepted s.scene s.events.items s.spare
    in let legal = rw (← c.self.view_is) at c.requires.legal
    in let at : slice_get s.tables.machines.items c.args.session ≡ Some c.index_mut.result.now = machine_there h s.tables (vec_capacity s.events) c.args.session c.index_mut.result.now c.self.invariant legal.way c.index_mut.ensures.value
    in kept_after s.accepted s.scene s.events.items c.push_reserved.new.self.items s.spare s.tables _ (vec_capacity s.events) (vec_capacity c.push_reserved.new.self) (Release c.args.session)
    c.self.invariant legal (rw (← c.self.view_is) at c.requires.few) (rw (← c.self.view_is) at c.requires.room) c.push_reserved.ensures.items
    (tables_release _ _ s.scene h.history s.tables c.self.invariant.tables c.args.session c.index_mut.result.now c.feed.new.self at (c.history_laws.ensures.live h.history) c.close.new.self (record { plan = c.feed.ensures.plan; tries = c.feed.ensures.tries; stands = λ done before. c.feed.ensures.stands (Did Released) done tt before }) c.close.ensures)
    (omega arith) (omega arith) (omega arith)

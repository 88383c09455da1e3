use Rattle.std.proofs.Common.{◌≡◌, length, ◌∙◌, arith, rules}
use Rattle.std.specs.Prelude.{vec_capacity, Some, slice_get}
use Rattle.std.specs.Vec.{vec_len}
use Rattle.carol_store.specs.Effects.{IsEffect}
use Rattle.carol_reading.specs.Marks.{Issued}
use Rattle.carol_event.specs.declared.event.Event.TheVariants.{Issue}
use Rattle.carol_history.specs.Acts.{Did}
use Rattle.carol_house.specs.House.{House, house_of, rules_of}
use Rattle.carol_house.specs.Nexts.{IsHome}
use Rattle.carol_house.proofs.Arriving.{few_entries, global_there, stays_global, stays_there, store_there}
use Rattle.carol_house.proofs.Entering.{kept_after, machine_inside, machine_there, may_follow}
use Rattle.carol_house.proofs.Eventful.{tables_issue}
use Rattle.carol_house.proofs.Sound.{issued_fits}
use Rattle.carol_house.proofs.house.House.issue.Goals as goal

pub new-made-requires : goal.new-made-requires
new-made-requires c =
    let s = c.self.inside
    in let h : House = house_of s.accepted s.scene s.events.items s.spare
    in rw (c.as_slice.ensures.items, c.program.ensures.program)
    (issued_fits h s.tables (vec_capacity s.events) c.self.invariant c.simulation.ensures.uphold c.args.session c.args.entry c.args.effect (rw (← c.self.view_is) at c.requires.legal) (rw (← c.self.view_is) at c.requires.few))

pub index_mut-requires : goal.index_mut-requires
index_mut-requires c =
    let s = c.self.inside
    in let h : House = house_of s.accepted s.scene s.events.items s.spare
    in let legal = rw (← c.self.view_is) at c.requires.legal
    in let here : vec_len s.tables.machines ≡ length s.tables.machines.items = search rules
    in rw here (machine_inside h s.tables (vec_capacity s.events) c.args.session c.self.invariant legal.next.way)

pub feed-requires : goal.feed-requires
feed-requires c =
    let s = c.self.inside
    in let h : House = house_of s.accepted s.scene s.events.items s.spare
    in let legal = rw (← c.self.view_is) at c.requires.legal
    in let at : slice_get s.tables.machines.items c.args.session ≡ Some c.index_mut.result.now = machine_there h s.tables (vec_capacity s.events) c.args.session c.index_mut.result.now c.self.invariant legal.next.way c.index_mut.ensures.value
    in (c.args.effect, may_follow h s.tables (vec_capacity s.events) c.args.session c.index_mut.result.now (Issued c.args.effect) c.self.invariant at legal.next)

pub close-requires : goal.close-requires
close-requires c =
    let s = c.self.inside
    in let h : House = house_of s.accepted s.scene s.events.items s.spare
    in let legal = rw (← c.self.view_is) at c.requires.legal
    in rw (c.self.invariant.tables.grants_each, ← c.self.invariant.tables.machine_each) (machine_inside h s.tables (vec_capacity s.events) c.args.session c.self.invariant legal.next.way)

pub push-requires : goal.push-requires
push-requires c =
    let s = c.self.inside
    in few_entries (house_of s.accepted s.scene s.events.items s.spare) s.tables (vec_capacity s.events) c.self.invariant (rw (← c.self.view_is) at c.requires.few)

pub add-requires-clause-entry : goal.add-requires-clause-entry
add-requires-clause-entry c =
    let s = c.self.inside
    in let legal = rw (← c.self.view_is) at c.requires.legal
    in rw (legal.number, ← c.self.invariant.tables.journal) (few_entries (house_of s.accepted s.scene s.events.items s.spare) s.tables (vec_capacity s.events) c.self.invariant (rw (← c.self.view_is) at c.requires.few))

pub issue-requires-clause-store : goal.issue-requires-clause-store
issue-requires-clause-store c =
    let s = c.self.inside
    in let home : IsHome s.scene c.args.session c.replica_of-replica.result = rw (← c.self.view_is) at c.replica_of-replica.ensures
    in rw c.program.ensures.program (store_there (house_of s.accepted s.scene s.events.items s.spare) s.tables (vec_capacity s.events) c.self.invariant c.replica_of-replica.result home.inside)

pub issue-requires-clause-whole : goal.issue-requires-clause-whole
issue-requires-clause-whole c =
    let s = c.self.inside
    in rw c.program.ensures.program (global_there (house_of s.accepted s.scene s.events.items s.spare) s.tables (vec_capacity s.events) c.self.invariant)

pub issue-requires-clause-effect : goal.issue-requires-clause-effect
issue-requires-clause-effect c =
    let s = c.self.inside
    in let h : House = house_of s.accepted s.scene s.events.items s.spare
    in rw (c.new-made.ensures, c.as_slice.ensures.items, c.program.ensures.program)
    (issued_fits h s.tables (vec_capacity s.events) c.self.invariant c.simulation.ensures.uphold c.args.session c.args.entry c.args.effect (rw (← c.self.view_is) at c.requires.legal) (rw (← c.self.view_is) at c.requires.few))

pub issue-requires-clause-words : goal.issue-requires-clause-words
issue-requires-clause-words c =
    let s = c.self.inside
    in let h : House = house_of s.accepted s.scene s.events.items s.spare
    in let home : IsHome s.scene c.args.session c.replica_of-replica.result = rw (← c.self.view_is) at c.replica_of-replica.ensures
    in let fits : IsEffect (rules_of h).shape c.args.effect = issued_fits h s.tables (vec_capacity s.events) c.self.invariant c.simulation.ensures.uphold c.args.session c.args.entry c.args.effect (rw (← c.self.view_is) at c.requires.legal) (rw (← c.self.view_is) at c.requires.few)
    in rw (c.new-made.ensures, c.as_slice.ensures.items, c.program.ensures.program)
    (stays_there h s.tables (vec_capacity s.events) c.self.invariant c.simulation.ensures.uphold c.store_laws.ensures.little c.args.effect fits c.replica_of-replica.result home.inside)

pub issue-requires-clause-whole_words : goal.issue-requires-clause-whole_words
issue-requires-clause-whole_words c =
    let s = c.self.inside
    in let h : House = house_of s.accepted s.scene s.events.items s.spare
    in let fits : IsEffect (rules_of h).shape c.args.effect = issued_fits h s.tables (vec_capacity s.events) c.self.invariant c.simulation.ensures.uphold c.args.session c.args.entry c.args.effect (rw (← c.self.view_is) at c.requires.legal) (rw (← c.self.view_is) at c.requires.few)
    in rw (c.new-made.ensures, c.as_slice.ensures.items, c.program.ensures.program)
    (stays_global h s.tables (vec_capacity s.events) c.self.invariant c.simulation.ensures.uphold c.store_laws.ensures.little c.args.effect fits)

pub invariant_of-self : goal.invariant_of-self
invariant_of-self c =
    let s = c.self.inside
    in let h : House = house_of s.accepted s.scene s.events.items s.spare
    in let legal = rw (← c.self.view_is) at c.requires.legal
    in let at : slice_get s.tables.machines.items c.args.session ≡ Some c.index_mut.result.now = machine_there h s.tables (vec_capacity s.events) c.args.session c.index_mut.result.now c.self.invariant legal.next.way c.index_mut.ensures.value
    in let home : IsHome s.scene c.args.session c.replica_of-replica.result = rw (← c.self.view_is) at c.replica_of-replica.ensures
    in let made : c.new-made.result ≡ c.args.effect = c.new-made.ensures ∙ c.as_slice.ensures.items
    in let pushed = rw c.unwrap.ensures at c.push.ensures.entries
    in let left = rw c.unwrap.ensures at c.push.ensures.spare
    in kept_after s.accepted s.scene s.events.items c.push_reserved.new.self.items s.spare s.tables _ (vec_capacity s.events) (vec_capacity c.push_reserved.new.self) (Issue c.args.session c.args.entry c.args.effect)
    c.self.invariant legal (rw (← c.self.view_is) at c.requires.few) (rw (← c.self.view_is) at c.requires.room) c.push_reserved.ensures.items
    (tables_issue _ _ s.scene h.history s.tables c.self.invariant.tables c.args.session c.index_mut.result.now c.feed.new.self at (c.history_laws.ensures.live h.history) (c.history_laws.ensures.grows (rules_of h) h.history) c.args.entry c.args.effect home.plan
    c.close.new.self c.add.new.self c.push.new.self c.issue.new.self home.planned
    (record { plan = c.feed.ensures.plan; tries = c.feed.ensures.tries; stands = λ done before. c.feed.ensures.stands (Did (Issued c.args.effect)) done tt before }) c.close.ensures
    (rw home.is at c.add.ensures) (rw made at pushed) (rw (made, home.is, c.program.ensures.program) at c.issue.ensures.local) (rw (made, c.program.ensures.program) at c.issue.ensures.global))
    (omega arith) (omega (arith, c.add.ensures.spare)) (omega (arith, left))

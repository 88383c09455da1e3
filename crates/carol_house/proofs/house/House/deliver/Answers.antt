use Rattle.std.proofs.Common.{◌<◌, length, ◌∙◌, arith}
use Rattle.std.specs.Prelude.{vec_capacity}
use Rattle.carol_event.specs.declared.event.Event.TheVariants.{Deliver}
use Rattle.carol_house.specs.House.{House, house_of, rules_of}
use Rattle.carol_house.proofs.Arriving.{delivered_effect, delivered_fits, delivered_inside, few_entries, stays_there, store_there}
use Rattle.carol_house.proofs.Entering.{kept_after}
use Rattle.carol_house.proofs.Eventful.{tables_deliver}
use Rattle.carol_house.proofs.house.House.deliver.Goals as goal

pub add-requires-clause-entry : goal.add-requires-clause-entry
add-requires-clause-entry c =
    let s = c.self.inside
    in let h : House = house_of s.accepted s.scene s.events.items s.spare
    in let legal = rw (← c.self.view_is) at c.requires.legal
    in let inside : c.args.entry < length s.tables.journal.entries = delivered_inside h s.tables (vec_capacity s.events) c.self.invariant (c.history_laws.ensures.held (rules_of h) h.scene h.history c.self.invariant.run) c.args.source c.args.target c.args.entry legal
    in omega (arith, few_entries h s.tables (vec_capacity s.events) c.self.invariant (rw (← c.self.view_is) at c.requires.few))

pub entry-effect-requires-clause-inside : goal.entry-effect-requires-clause-inside
entry-effect-requires-clause-inside c =
    let s = c.self.inside
    in let h : House = house_of s.accepted s.scene s.events.items s.spare
    in delivered_inside h s.tables (vec_capacity s.events) c.self.invariant (c.history_laws.ensures.held (rules_of h) h.scene h.history c.self.invariant.run) c.args.source c.args.target c.args.entry (rw (← c.self.view_is) at c.requires.legal)

pub entry-effect-requires-clause-fits : goal.entry-effect-requires-clause-fits
entry-effect-requires-clause-fits c =
    let s = c.self.inside
    in let h : House = house_of s.accepted s.scene s.events.items s.spare
    in rw c.program.ensures.program
    (delivered_fits h s.tables (vec_capacity s.events) c.self.invariant c.simulation.ensures.uphold (c.history_laws.ensures.held (rules_of h) h.scene h.history c.self.invariant.run) c.args.source c.args.target c.args.entry (rw (← c.self.view_is) at c.requires.legal))

pub arrive-requires-clause-store : goal.arrive-requires-clause-store
arrive-requires-clause-store c =
    let s = c.self.inside
    in let legal = rw (← c.self.view_is) at c.requires.legal
    in rw c.program.ensures.program (store_there (house_of s.accepted s.scene s.events.items s.spare) s.tables (vec_capacity s.events) c.self.invariant c.args.target legal.to)

pub arrive-requires-clause-effect : goal.arrive-requires-clause-effect
arrive-requires-clause-effect c =
    let s = c.self.inside
    in let h : House = house_of s.accepted s.scene s.events.items s.spare
    in rw (c.entry-effect.ensures, c.program.ensures.program)
    (delivered_fits h s.tables (vec_capacity s.events) c.self.invariant c.simulation.ensures.uphold (c.history_laws.ensures.held (rules_of h) h.scene h.history c.self.invariant.run) c.args.source c.args.target c.args.entry (rw (← c.self.view_is) at c.requires.legal))

pub arrive-requires-clause-words : goal.arrive-requires-clause-words
arrive-requires-clause-words c =
    let s = c.self.inside
    in let h : House = house_of s.accepted s.scene s.events.items s.spare
    in let legal = rw (← c.self.view_is) at c.requires.legal
    in rw (c.entry-effect.ensures, c.program.ensures.program)
    (stays_there h s.tables (vec_capacity s.events) c.self.invariant c.simulation.ensures.uphold c.store_laws.ensures.little _
    (delivered_fits h s.tables (vec_capacity s.events) c.self.invariant c.simulation.ensures.uphold (c.history_laws.ensures.held (rules_of h) h.scene h.history c.self.invariant.run) c.args.source c.args.target c.args.entry legal) c.args.target legal.to)

pub invariant_of-self : goal.invariant_of-self
invariant_of-self c =
    let s = c.self.inside
    in let h : House = house_of s.accepted s.scene s.events.items s.spare
    in kept_after s.accepted s.scene s.events.items c.push_reserved.new.self.items s.spare s.tables _ (vec_capacity s.events) (vec_capacity c.push_reserved.new.self) (Deliver c.args.source c.args.target c.args.entry)
    c.self.invariant (rw (← c.self.view_is) at c.requires.legal) (rw (← c.self.view_is) at c.requires.few) (rw (← c.self.view_is) at c.requires.room) c.push_reserved.ensures.items
    (tables_deliver _ _ s.scene h.history s.tables c.self.invariant.tables c.args.source c.args.target c.args.entry c.entry-effect.result c.add.new.self c.arrive.new.self
    (c.entry-effect.ensures ∙ delivered_effect h s.tables (vec_capacity s.events) c.self.invariant c.args.entry) c.add.ensures (rw c.program.ensures.program at c.arrive.ensures.local) c.arrive.ensures.global)
    (omega arith) (omega (arith, c.add.ensures.spare)) (omega arith)

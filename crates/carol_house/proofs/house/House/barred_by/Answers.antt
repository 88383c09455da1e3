use Rattle.std.proofs.Common.{refl, subst}
use Rattle.std.specs.Prelude.{vec_capacity}
use Rattle.carol_reading.specs.Marks.{Issued}
use Rattle.carol_history.proofs.Actors.{is_there}
use Rattle.carol_machine.specs.declared.wish.Wish.TheVariants as wish
use Rattle.carol_house.specs.House.{House, house_of, rules_of}
use Rattle.carol_house.specs.Nexts.{GoesOnWith, IsBarred}
use Rattle.carol_house.proofs.Wishing.{barred}
use Rattle.carol_house.proofs.house.House.barred_by.Goals as goal

pub barred_by-requires-clause-session : goal.barred_by-requires-clause-session
barred_by-requires-clause-session c =
    let s = c.self.inside
    in let h : House = house_of s.accepted s.scene s.events.items s.spare
    in let goes : GoesOnWith (rules_of h) h.scene c.args.session (wish.Issue c.args.effect.now) h.history = rw (← c.self.view_is) at c.requires
    in rw c.self.invariant.tables.grants_each (is_there h.scene c.args.session h.history (goes.next (Issued c.args.effect.now) refl).way)

pub returns : goal.returns
returns c =
    let s = c.self.inside
    in let h : House = house_of s.accepted s.scene s.events.items s.spare
    in subst (λ (x : House). IsBarred (rules_of x) c.args.session c.args.effect.now c.barred_by.result x.history) c.self.view_is
    (barred h s.tables (vec_capacity s.events) c.self.invariant c.simulation.ensures.decided (c.history_laws.ensures.live_named (rules_of h) h.scene h.history c.self.invariant.run) c.args.session c.args.effect.now c.barred_by.result c.barred_by.ensures)

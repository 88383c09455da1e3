use Rattle.std.proofs.Common.{◌≡◌, ◌≢◌, max, length, subst, rules}
use Rattle.std.specs.Prelude.{vec_capacity, None}
use Rattle.carol_house.specs.House.{House, house_of, rules_of}
use Rattle.carol_house.specs.Kept.{settled_below}
use Rattle.carol_house.specs.Nexts.{IsFirstOutside, IsFirstUnsettled, IsOutside}
use Rattle.carol_house.proofs.Outside.{found_outside, kept_settled, none_outside, settled_set, start_inside}
use Rattle.carol_house.proofs.Sound.{entries_fit}
use Rattle.carol_house.proofs.house.House.first_outside.Goals as goal

pub first_unsettled-found-requires-clause-start : goal.first_unsettled-found-requires-clause-start
first_unsettled-found-requires-clause-start c =
    let s = c.self.inside
    in let h : House = house_of s.accepted s.scene s.events.items s.spare
    in rw (c.max-start.ensures, c.below-below.ensures)
    (start_inside h s.tables (vec_capacity s.events) c.self.invariant c.simulation.ensures.decided (c.history_laws.ensures.held (rules_of h) h.scene h.history c.self.invariant.run) c.args.replica c.args.guard (rw (← c.self.view_is) at c.requires.replica) (rw (← c.self.view_is) at c.requires.guard) c.front.result c.front.ensures.below)

pub first_unsettled-found-requires-clause-entries : goal.first_unsettled-found-requires-clause-entries
first_unsettled-found-requires-clause-entries c =
    let s = c.self.inside
    in let h : House = house_of s.accepted s.scene s.events.items s.spare
    in rw c.self.invariant.may.right.same_kinds (entries_fit h s.tables (vec_capacity s.events) c.self.invariant c.simulation.ensures.uphold)

pub invariant_of-self : goal.invariant_of-self
invariant_of-self c =
    let s = c.self.inside
    in let h : House = house_of s.accepted s.scene s.events.items s.spare
    in let first : IsFirstUnsettled s.tables h.kept.accords c.args.replica c.args.guard (max (settled_below s.tables.settled c.args.replica c.args.guard) c.front.result) c.first_unsettled-found.result = rw (c.max-start.ensures, c.below-below.ensures) at c.first_unsettled-found.ensures
    in kept_settled h s.tables (vec_capacity s.events) c.self.invariant c.set.new.self
    (settled_set h s.tables (vec_capacity s.events) c.self.invariant c.simulation.ensures.decided (c.history_laws.ensures.held (rules_of h) h.scene h.history c.self.invariant.run) c.args.replica c.args.guard (rw (← c.self.view_is) at c.requires.replica) (rw (← c.self.view_is) at c.requires.guard) c.front.result c.first_unsettled-found.result c.front.ensures.below first c.set.new.self c.set.ensures)

pub returns-then-found-len-clause-first : goal.returns-then-found-len-clause-first
returns-then-found-len-clause-first c =
    let s = c.self.inside
    in let h : House = house_of s.accepted s.scene s.events.items s.spare
    in let first : IsFirstUnsettled s.tables h.kept.accords c.args.replica c.args.guard (max (settled_below s.tables.settled c.args.replica c.args.guard) c.front.result) c.first_unsettled-found.result = rw (c.max-start.ensures, c.below-below.ensures) at c.first_unsettled-found.ensures
    in let all : c.first_unsettled-found.result ≡ length s.tables.journal.entries = search rules
    in subst (λ (x : House). IsFirstOutside (rules_of x) x.scene c.args.replica c.args.guard None x.history) c.self.view_is
    (none_outside h s.tables (vec_capacity s.events) c.self.invariant c.simulation.ensures.decided (c.history_laws.ensures.held (rules_of h) h.scene h.history c.self.invariant.run) c.args.replica c.args.guard (rw (← c.self.view_is) at c.requires.replica) (rw (← c.self.view_is) at c.requires.guard) c.front.result c.first_unsettled-found.result c.front.ensures.below first all)

pub invariant_of-self-2 : goal.invariant_of-self-2
invariant_of-self-2 c =
    let s = c.self.inside
    in let h : House = house_of s.accepted s.scene s.events.items s.spare
    in let first : IsFirstUnsettled s.tables h.kept.accords c.args.replica c.args.guard (max (settled_below s.tables.settled c.args.replica c.args.guard) c.front.result) c.first_unsettled-found.result = rw (c.max-start.ensures, c.below-below.ensures) at c.first_unsettled-found.ensures
    in kept_settled h s.tables (vec_capacity s.events) c.self.invariant c.set.new.self
    (settled_set h s.tables (vec_capacity s.events) c.self.invariant c.simulation.ensures.decided (c.history_laws.ensures.held (rules_of h) h.scene h.history c.self.invariant.run) c.args.replica c.args.guard (rw (← c.self.view_is) at c.requires.replica) (rw (← c.self.view_is) at c.requires.guard) c.front.result c.first_unsettled-found.result c.front.ensures.below first c.set.new.self c.set.ensures)

pub returns-clause-first : goal.returns-clause-first
returns-clause-first c =
    let s = c.self.inside
    in let h : House = house_of s.accepted s.scene s.events.items s.spare
    in let first : IsFirstUnsettled s.tables h.kept.accords c.args.replica c.args.guard (max (settled_below s.tables.settled c.args.replica c.args.guard) c.front.result) c.first_unsettled-found.result = rw (c.max-start.ensures, c.below-below.ensures) at c.first_unsettled-found.ensures
    in let some : c.first_unsettled-found.result ≢ length s.tables.journal.entries = search rules
    in subst (λ (x : House). IsOutside (rules_of x) x.scene c.args.replica c.args.guard c.first_unsettled-found.result x.history) c.self.view_is
    (found_outside h s.tables (vec_capacity s.events) c.self.invariant c.simulation.ensures.decided (c.history_laws.ensures.held (rules_of h) h.scene h.history c.self.invariant.run) c.args.replica c.args.guard (rw (← c.self.view_is) at c.requires.replica) (rw (← c.self.view_is) at c.requires.guard) c.front.result c.first_unsettled-found.result c.front.ensures.below first some)

use Rattle.std.proofs.Common.{◌≡◌, ◌<◌, length, refl, subst}
use Rattle.std.specs.Prelude.{vec_capacity, Some, slice_get}
use Rattle.std.proofs.lemmas.Option.{slice_get_read}
use Rattle.carol_history.specs.Acts.{acts}
use Rattle.carol_house.specs.House.{House, house_of, rules_of}
use Rattle.carol_house.specs.Nexts.{Wishes}
use Rattle.carol_house.proofs.Wishing.{reads_so_far, stands_well, wishes}
use Rattle.carol_house.proofs.house.House.wish.Goals as goal

pub action-requires : goal.action-requires
action-requires c =
    let s = c.self.inside
    in let h : House = house_of s.accepted s.scene s.events.items s.spare
    in let inside : c.args.session < length h.scene.sessions = rw (← c.self.view_is) at c.requires
    in let at : slice_get s.tables.machines.items c.args.session ≡ Some c.index.result.now = slice_get_read s.tables.machines.items (length s.tables.machines.items) c.args.session c.index.result.now refl (rw c.self.invariant.tables.machine_each inside) c.index.ensures
    in stands_well h s.tables (vec_capacity s.events) c.self.invariant c.simulation.ensures.walks c.args.session c.index.result.now at

pub returns : goal.returns
returns c =
    let s = c.self.inside
    in let h : House = house_of s.accepted s.scene s.events.items s.spare
    in let inside : c.args.session < length h.scene.sessions = rw (← c.self.view_is) at c.requires
    in let at : slice_get s.tables.machines.items c.args.session ≡ Some c.index.result.now = slice_get_read s.tables.machines.items (length s.tables.machines.items) c.args.session c.index.result.now refl (rw c.self.invariant.tables.machine_each inside) c.index.ensures
    in let one = c.self.invariant.tables.machines c.args.session c.index.result.now at
    in let reads = reads_so_far h s.tables (vec_capacity s.events) c.self.invariant c.simulation.ensures.walks c.args.session c.index.result.now at
    in subst (λ (x : House). Wishes (rules_of x) x.scene c.args.session c.action.result x.history) c.self.view_is
    (wishes (rules_of h) h.scene c.args.session h.history c.index.result.now one c.self.invariant.may.well_formed.rules.store c.action.result (c.action.ensures (acts c.args.session h.history) one.at reads))

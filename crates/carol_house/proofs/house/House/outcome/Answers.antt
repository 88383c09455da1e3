use Rattle.std.proofs.Common.{◌≡◌, length, refl, sym, subst, ◌∙◌}
use Rattle.std.specs.Prelude.{Some, slice_get}
use Rattle.std.proofs.lemmas.Option.{slice_get_read}
use Rattle.carol_house.specs.House.{HasPlanned, House, house_of}
use Rattle.carol_house.proofs.Readers.{outcome_here, planned_here, planned_there}
use Rattle.carol_house.proofs.house.House.outcome.Goals as goal

pub outcome-requires : goal.outcome-requires
outcome-requires c =
    let s = c.self.inside
    in let h : House = house_of s.accepted s.scene s.events.items s.spare
    in let has : HasPlanned h.scene c.args.session c.args.command = subst (λ (x : House). HasPlanned x.scene c.args.session c.args.command) (sym c.self.view_is) c.requires
    in let at : slice_get s.tables.machines.items c.args.session ≡ Some c.index.result.now = slice_get_read s.tables.machines.items (length s.tables.machines.items) c.args.session c.index.result.now refl (rw c.self.invariant.tables.machine_each (planned_there h.scene c.args.session c.args.command has)) c.index.ensures
    in planned_here h.scene h.history c.args.session c.index.result.now (c.self.invariant.tables.machines c.args.session c.index.result.now at) c.args.command has

pub returns : goal.returns
returns c =
    let s = c.self.inside
    in let h : House = house_of s.accepted s.scene s.events.items s.spare
    in let has : HasPlanned h.scene c.args.session c.args.command = subst (λ (x : House). HasPlanned x.scene c.args.session c.args.command) (sym c.self.view_is) c.requires
    in let at : slice_get s.tables.machines.items c.args.session ≡ Some c.index.result.now = slice_get_read s.tables.machines.items (length s.tables.machines.items) c.args.session c.index.result.now refl (rw c.self.invariant.tables.machine_each (planned_there h.scene c.args.session c.args.command has)) c.index.ensures
    in rw (← c.self.view_is) (c.outcome.ensures ∙ outcome_here h.scene h.history c.args.session c.index.result.now (c.self.invariant.tables.machines c.args.session c.index.result.now at) c.args.command)

use Rattle.std.proofs.Common.{◌≡◌, ◌<◌, true, length, refl, sym, subst, ◌∙◌}
use Rattle.std.specs.Prelude.{◌↔◌, Some, slice_get}
use Rattle.std.proofs.lemmas.Option.{slice_get_read}
use Rattle.carol_house.specs.House.{House, house_of}
use Rattle.carol_house.specs.Moves.{HasCommand}
use Rattle.carol_house.proofs.Readers.{none_is, present_is}
use Rattle.carol_house.proofs.house.House.finished.Goals as goal

pub returns : goal.returns
returns c =
    let s = c.self.inside
    in let h : House = house_of s.accepted s.scene s.events.items s.spare
    in let inside : c.args.session < length h.scene.sessions = rw (← c.self.view_is) at c.requires
    in let at : slice_get s.tables.machines.items c.args.session ≡ Some c.index.result.now = slice_get_read s.tables.machines.items (length s.tables.machines.items) c.args.session c.index.result.now refl (rw c.self.invariant.tables.machine_each inside) c.index.ensures
    in let told = none_is c.present.result c.is_none.result c.is_none.ensures
    in let is = present_is h.scene h.history c.args.session c.index.result.now (c.self.invariant.tables.machines c.args.session c.index.result.now at)
    in subst (λ (x : House). (c.is_none.result ≡ true) ↔ (HasCommand x c.args.session → ⊥)) c.self.view_is
    (λ e. is.0 (sym c.present.ensures ∙ told.0 e), λ none. told.1 (c.present.ensures ∙ is.1 none))

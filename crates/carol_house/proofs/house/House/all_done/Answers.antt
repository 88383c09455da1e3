use Rattle.std.proofs.Common.{◌≡◌, true, subst, rules}
use Rattle.std.specs.Prelude.{◌↔◌, vec_capacity}
use Rattle.carol_history.specs.Results.{AreDone}
use Rattle.carol_house.specs.House.{House, house_of}
use Rattle.carol_house.specs.Kept.{are_done}
use Rattle.carol_house.proofs.Readers.{done_is}
use Rattle.carol_house.proofs.house.House.all_done.Goals as goal

pub returns : goal.returns
returns c =
    let s = c.self.inside
    in let h : House = house_of s.accepted s.scene s.events.items s.spare
    in let same : c.are_done.result ≡ are_done s.tables.machines.items = search rules
    in subst (λ (x : House). (c.are_done.result ≡ true) ↔ AreDone x.scene x.history) c.self.view_is
    (rw same (done_is h s.tables (vec_capacity s.events) c.self.invariant (c.history_laws.ensures.done h.scene h.history)))

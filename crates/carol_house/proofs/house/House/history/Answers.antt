use Rattle.std.proofs.Common.{subst}
use Rattle.std.specs.Prelude.{vec_capacity}
use Rattle.carol_house.specs.House.{House, UpholdsAll, house_of}
use Rattle.carol_house.proofs.Readers.{upholds_all}
use Rattle.carol_house.proofs.house.House.history.Goals as goal

pub returns-clause-upheld : goal.returns-clause-upheld
returns-clause-upheld c =
    let s = c.self.inside
    in subst (λ (x : House). UpholdsAll x) c.self.view_is
    (upholds_all (house_of s.accepted s.scene s.events.items s.spare) s.tables (vec_capacity s.events) c.self.invariant c.simulation.ensures.uphold)

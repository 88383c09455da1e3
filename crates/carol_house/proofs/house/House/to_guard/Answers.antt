use Rattle.std.proofs.Common.{refl, subst}
use Rattle.std.specs.Prelude.{None}
use Rattle.carol_reading.specs.Marks.{Asked}
use Rattle.carol_history.proofs.Actors.{is_there}
use Rattle.carol_house.specs.House.{House, rules_of}
use Rattle.carol_house.specs.Nexts.{IsHolder, IsLowestHolder}
use Rattle.carol_house.proofs.Forcing.{behind_forced, fetch_forced, grant_forced}
use Rattle.carol_house.proofs.house.House.to_guard.Goals as goal

pub replica_of-target-requires : goal.replica_of-target-requires
replica_of-target-requires c =
    let h = c.args.self.now
    in is_there h.scene c.args.session h.history (c.requires.next (Asked c.args.guard (rules_of h).initial) (refl, c.requires.start)).way

pub returns-in_default-clause-forced : goal.returns-in_default-clause-forced
returns-in_default-clause-forced c =
    let h = c.args.self.now
    in grant_forced (rules_of h) h.scene c.args.session h.history c.args.guard c.replica_of-target.result c.requires c.replica_of-target.ensures c.in_default.ensures.first

pub returns-in-Some-holder-clause-forced : goal.returns-in-Some-holder-clause-forced
returns-in-Some-holder-clause-forced c =
    let h = c.args.self.now
    in let holder : IsLowestHolder h.scene c.in-Some-holder.source c.replica_of-target.result c.in-Some.entry h.history =
    subst (λ (x : House). IsLowestHolder x.scene c.in-Some-holder.source c.replica_of-target.result c.in-Some.entry x.history) c.first_outside.ensures.same c.in-Some-holder.ensures
    in fetch_forced (rules_of h) h.scene c.args.session h.history c.args.guard c.replica_of-target.result c.requires c.replica_of-target.ensures c.in-Some.entry c.in-Some.ensures.first c.in-Some-holder.source holder

pub returns-in-None-clause-forced : goal.returns-in-None-clause-forced
returns-in-None-clause-forced c =
    let h = c.args.self.now
    in let nowhere : IsHolder h.scene c.replica_of-target.result c.in-Some.entry None h.history =
    subst (λ (x : House). IsHolder x.scene c.replica_of-target.result c.in-Some.entry None x.history) c.first_outside.ensures.same c.in-None.ensures
    in behind_forced (rules_of h) h.scene c.args.session h.history c.args.guard c.replica_of-target.result c.requires c.replica_of-target.ensures c.in-Some.entry c.in-Some.ensures.first nowhere

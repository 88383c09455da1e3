use Rattle.std.proofs.Common.{refl}
use Rattle.carol_reading.specs.Marks.{Asked}
use Rattle.carol_history.proofs.Actors.{is_there}
use Rattle.carol_house.specs.House.{rules_of}
use Rattle.carol_house.proofs.Forcing.{query_forced}
use Rattle.carol_house.proofs.house.House.to_query.Goals as goal

pub replica_of-requires : goal.replica_of-requires
replica_of-requires c =
    let h = c.args.self.now
    in is_there h.scene c.args.session h.history (c.requires.next (Asked c.args.guard (rules_of h).initial) (refl, c.requires.start)).way

pub returns : goal.returns
returns c =
    let h = c.args.self.now
    in query_forced (rules_of h) h.scene c.args.session h.history c.args.guard c.local.result c.replica_of.result c.requires c.replica_of.ensures c.local.ensures

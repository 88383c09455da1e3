use Rattle.std.proofs.Common.{◌<◌, ◌++◌}
use Rattle.std.specs.String.{string_bytes}
use Rattle.carol_history.specs.Journals.{local}
use Rattle.carol_house.specs.House.{rules_of}
use Rattle.carol_report.specs.Report.{store_line, stores_text}
use Rattle.carol_report.proofs.Texts.{numbers_more}
use Rattle.carol_report.proofs.stores.push_stores.Goals as goal

pub loop-replica-preserved : goal.loop-replica-preserved
loop-replica-preserved c =
    let house = c.args.house.now
    in let inside : c.loop-replica.replica < house.scene.replicas = rw c.scene.ensures.scene at c.loop-replica-test.true
    in rw (c.in_ok-push_store.ensures, c.local.ensures)
    (numbers_more (λ replica. store_line replica (local (rules_of house) house.scene replica house.history)) (string_bytes c.loop-replica.out) c.loop-replica.replica house.scene.replicas
    (string_bytes c.args.out.now ++ stores_text (rules_of house) house.scene house.history) inside c.loop-replica.invariant)

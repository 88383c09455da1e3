use Rattle.std.proofs.Common.{◌≡◌, ◌-◌, ◌++◌}
use Rattle.std.specs.Prelude.{flat_map}
use Rattle.std.specs.List.{range_with_len}
use Rattle.std.specs.String.{string_bytes}
use Rattle.carol_history.specs.Journals.{local}
use Rattle.carol_house.specs.House.{rules_of}
use Rattle.carol_report.specs.Report.{store_line, stores_text}
use Rattle.carol_report.proofs.stores.push_stores.Given as goal

abbrev pub invariant-loop-replica : goal.invariant-loop-replica
invariant-loop-replica l =
    string_bytes l.out ++ flat_map (λ replica. store_line replica (local (rules_of l.house) l.house.scene replica l.house.history)) (range_with_len l.replica (l.house.scene.replicas - l.replica))
    ≡ string_bytes l.fn.out ++ stores_text (rules_of l.house) l.house.scene l.house.history

use Rattle.carol_disk.specs.Tapes.{seen_of}
use Rattle.carol_recovery.proofs.Reading.{left_opens, left_told}
use Rattle.carol_recovery.proofs.keeping.read_back.Goals as goal

pub unreachable-requires : goal.unreachable-requires
unreachable-requires c =
    left_opens c.vault_laws.ensures.single c.vault_laws.ensures.shown c.args.stop c.args.house.now c.history-history.ensures.history (seen_of c.in_ok-disk.disk) c.in_ok-disk.ensures
    c.in-Err.failed.cause c.in-Damaged.is c.in-Err.ensures.err

pub returns-in-Ok : goal.returns-in-Ok
returns-in-Ok c =
    left_told c.vault_laws.ensures.single c.vault_laws.ensures.shown c.args.stop c.args.house.now c.history-history.ensures.history (seen_of c.in_ok-disk.disk) c.in_ok-disk.ensures
    c.in-Ok.vault.house c.house.result.now c.report.result c.in-Ok.ensures.ok c.house.ensures.house c.report.ensures

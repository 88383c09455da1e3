use Rattle.std.proofs.Common.{◌+◌, drop, get_or, sym, ap, subst}
use Rattle.std.specs.Prelude.{Err}
use Rattle.carol_history.specs.declared.script.Statement.TheVariants.{Go}
use Rattle.carol_house.specs.House.{rules_of}
use Rattle.carol_recovery.specs.Disks.{KeepsFront}
use Rattle.carol_recovery.proofs.Going.{begins, going_at, has_next, keeps_none, keeps_on, keeps_some, new_disk, new_opens}
use Rattle.carol_recovery.proofs.keeping.stopped.Goals as goal

pub returns-in-Fault : goal.returns-in-Fault
returns-in-Fault c =
    keeps_none c.vault_laws.ensures.single c.vault_laws.ensures.shown c.args.stop c.args.house.now c.new-disk.result c.in-Err.failed.disk c.history-history.ensures.history
    (new_disk c.new.result.items c.args.stop c.from.result c.new-disk.result c.new-disk.ensures c.new.ensures.items c.from.ensures)
    c.in-Err.ensures.kept c.in-Err.ensures.fewer (c.in-Err.ensures.fault c.in-Fault.is) c.in-Err.ensures.limit

pub unreachable-requires : goal.unreachable-requires
unreachable-requires c =
    new_opens c.vault_laws.ensures.single c.vault_laws.ensures.shown c.args.stop c.args.house.now c.new-disk.result c.in-Err.failed.cause c.history-history.ensures.history
    (new_disk c.new.result.items c.args.stop c.from.result c.new-disk.result c.new-disk.ensures c.new.ensures.items c.from.ensures) c.in-Err.ensures.err c.in-Damaged.is

pub loop-line-init : goal.loop-line-init
loop-line-init c =
    begins c.vault_laws.ensures.single c.vault_laws.ensures.shown c.args.stop c.args.house.now c.args.lines.now c.new-disk.result c.in-Ok.vault c.history-history.ensures.history
    c.requires.makes c.requires.few (new_disk c.new.result.items c.args.stop c.from.result c.new-disk.result c.new-disk.ensures c.new.ensures.items c.from.ensures)
    c.in-Ok.ensures.ok c.in-Ok.ensures.open c.in-Ok.ensures.ticks c.in-Ok.ensures.limit

pub keep_statement-requires : goal.keep_statement-requires
keep_statement-requires c =
    let lines = c.args.lines.now in
    let place = c.loop-line.line-index in
    has_next c.args.stop c.args.house.now (get_or lines place (Go 0)) (drop (place + 1) lines) c.loop-line.vault
    (going_at c.args.stop c.args.house.now lines place c.loop-line.vault c.loop-line-test.true c.loop-line.invariant)

pub loop-line-preserved : goal.loop-line-preserved
loop-line-preserved c =
    let house = c.args.house.now in
    let lines = c.args.lines.now in
    let place = c.loop-line.line-index in
    let valid = c.history-history.ensures.history.may.valid in
    keeps_on c.args.stop house (c.history_laws.ensures.one_script (rules_of house) house.scene valid) (c.history_laws.ensures.script (rules_of house) house.scene valid)
    (get_or lines place (Go 0)) (drop (place + 1) lines) c.loop-line.vault c.keep_statement.new.vault
    (going_at c.args.stop house lines place c.loop-line.vault c.loop-line-test.true c.loop-line.invariant)
    c.in-Ok-keep_statement.ensures.ok c.in-Ok-keep_statement.ensures.ticks c.in-Ok-keep_statement.ensures.limit

pub returns-in-Err-Fault : goal.returns-in-Err-Fault
returns-in-Err-Fault c =
    let house = c.args.house.now in
    let lines = c.args.lines.now in
    let place = c.loop-line.line-index in
    let valid = c.history-history.ensures.history.may.valid in
    subst (KeepsFront c.args.stop house.history) (sym c.close.ensures.disk)
    (keeps_some c.args.stop house (c.history_laws.ensures.one_script (rules_of house) house.scene valid) (get_or lines place (Go 0)) (drop (place + 1) lines) c.loop-line.vault
    c.keep_statement.new.vault (going_at c.args.stop house lines place c.loop-line.vault c.loop-line-test.true c.loop-line.invariant)
    (rw c.in-Err-Fault.field-0-is at c.in-Err-Fault.ensures.err) c.in-Err-Fault.ensures.ticks (c.in-Err-Fault.ensures.fault (ap Err c.in-Err-Fault.field-0-is))
    c.in-Err-Fault.ensures.limit c.close.ensures.kept.kept_shows)

use Rattle.std.proofs.Common.{get_or, refl, subst, arith}
use Rattle.carol_history.specs.declared.script.Statement.TheVariants.{Go}
use Rattle.carol_vault.specs.Vaults.{acknowledged}
use Rattle.carol_kept_run.specs.declared.ending.Made.{Made}
use Rattle.carol_kept_run.specs.declared.ending.Made.TheVariants as made
use Rattle.carol_kept_run.specs.Going.{Yields}
use Rattle.carol_kept_run.specs.Telling.{TellsLatest}
use Rattle.carol_kept_run.proofs.Growth.{acknowledged_later, later_both}
use Rattle.carol_kept_run.proofs.Playings.{crash_more, fails_later, full_part, part_kept, part_same, part_told, playing_more, plays_bad, same_part, tells_later, tells_told, yields_later}
use Rattle.carol_kept_run.proofs.script.keep_script.Goals as goal

pub returns-in_err-keep_statement-clause-part : goal.returns-in_err-keep_statement-clause-part
returns-in_err-keep_statement-clause-part g c =
    part_kept c.args.vault.now c.loop-index.vault c.keep_statement.new.vault (get_or c.args.script.now c.loop-index.index (Go 0)) c.in_err-keep_statement.field-0.0 (g.K.Sink.taken c.args.sink.now) (g.K.Sink.taken c.loop-index.sink)
    c.loop-index.invariant.stays_open c.in_err-keep_statement.ensures.err c.loop-index.invariant.tells

pub returns-in_err-keep_statement-clause-later : goal.returns-in_err-keep_statement-clause-later
returns-in_err-keep_statement-clause-later g c =
    later_both c.args.vault.now.house.history c.loop-index.vault.house.history c.keep_statement.new.vault.house.history
    (tells_later c.args.vault.now.house.history c.loop-index.vault.house.history (g.K.Sink.taken c.args.sink.now) (g.K.Sink.taken c.loop-index.sink) c.loop-index.invariant.tells)
    (fails_later c.loop-index.vault c.keep_statement.new.vault (get_or c.args.script.now c.loop-index.index (Go 0)) c.in_err-keep_statement.field-0.0 c.in_err-keep_statement.ensures.err)

pub returns-in_err-keep_statement-clause-any_moment : goal.returns-in_err-keep_statement-clause-any_moment
returns-in_err-keep_statement-clause-any_moment g c =
    crash_more g.D.Disk.moment g.D.Disk.left_since c.args.vault.now.disk c.loop-index.vault.disk c.keep_statement.new.vault.disk
    (acknowledged c.args.vault.now) (acknowledged c.loop-index.vault) c.loop-index.vault.house c.keep_statement.new.vault.house
    (acknowledged_later c.args.vault.now c.loop-index.vault c.requires.open c.loop-index.invariant.stays_open
    (tells_later c.args.vault.now.house.history c.loop-index.vault.house.history (g.K.Sink.taken c.args.sink.now) (g.K.Sink.taken c.loop-index.sink) c.loop-index.invariant.tells))
    (fails_later c.loop-index.vault c.keep_statement.new.vault (get_or c.args.script.now c.loop-index.index (Go 0)) c.in_err-keep_statement.field-0.0 c.in_err-keep_statement.ensures.err)
    c.loop-index.invariant.any_moment c.keep_statement.ensures.any_moment

pub returns-in_err-tell_latest-in-Event-clause-part : goal.returns-in_err-tell_latest-in-Event-clause-part
returns-in_err-tell_latest-in-Event-clause-part g c =
    part_told c.args.vault.now c.loop-index.vault c.keep_statement.new.vault c.house.result.now (get_or c.args.script.now c.loop-index.index (Go 0))
    (g.K.Sink.taken c.args.sink.now) (g.K.Sink.taken c.loop-index.sink) (g.K.Sink.taken c.tell_latest.new.sink)
    (subst (λ (m : Made). Yields c.loop-index.vault (get_or c.args.script.now c.loop-index.index (Go 0)) m c.keep_statement.new.vault) c.in-Event.is c.in_ok-keep_statement.ensures.ok) c.house.ensures.house c.loop-index.invariant.tells c.tell_latest.ensures.part

pub returns-in_err-tell_latest-in-Event-clause-later : goal.returns-in_err-tell_latest-in-Event-clause-later
returns-in_err-tell_latest-in-Event-clause-later g c =
    later_both c.args.vault.now.house.history c.loop-index.vault.house.history c.keep_statement.new.vault.house.history
    (tells_later c.args.vault.now.house.history c.loop-index.vault.house.history (g.K.Sink.taken c.args.sink.now) (g.K.Sink.taken c.loop-index.sink) c.loop-index.invariant.tells)
    (yields_later c.loop-index.vault c.keep_statement.new.vault (get_or c.args.script.now c.loop-index.index (Go 0)) (subst (λ (m : Made). Yields c.loop-index.vault (get_or c.args.script.now c.loop-index.index (Go 0)) m c.keep_statement.new.vault) c.in-Event.is c.in_ok-keep_statement.ensures.ok))

pub returns-in_err-tell_latest-in-Event-clause-any_moment : goal.returns-in_err-tell_latest-in-Event-clause-any_moment
returns-in_err-tell_latest-in-Event-clause-any_moment g c =
    crash_more g.D.Disk.moment g.D.Disk.left_since c.args.vault.now.disk c.loop-index.vault.disk c.keep_statement.new.vault.disk
    (acknowledged c.args.vault.now) (acknowledged c.loop-index.vault) c.loop-index.vault.house c.keep_statement.new.vault.house
    (acknowledged_later c.args.vault.now c.loop-index.vault c.requires.open c.loop-index.invariant.stays_open
    (tells_later c.args.vault.now.house.history c.loop-index.vault.house.history (g.K.Sink.taken c.args.sink.now) (g.K.Sink.taken c.loop-index.sink) c.loop-index.invariant.tells))
    (yields_later c.loop-index.vault c.keep_statement.new.vault (get_or c.args.script.now c.loop-index.index (Go 0)) (subst (λ (m : Made). Yields c.loop-index.vault (get_or c.args.script.now c.loop-index.index (Go 0)) m c.keep_statement.new.vault) c.in-Event.is c.in_ok-keep_statement.ensures.ok))
    c.loop-index.invariant.any_moment c.keep_statement.ensures.any_moment

pub returns-in-Silent-clause-ends : goal.returns-in-Silent-clause-ends
returns-in-Silent-clause-ends g c =
    plays_bad c.args.vault.now c.loop-index.vault c.keep_statement.new.vault c.args.script.now c.loop-index.index (Go 0) c.in-Silent.cause
    c.loop-index-test.true c.loop-index.invariant.playing (subst (λ (m : Made). Yields c.loop-index.vault (get_or c.args.script.now c.loop-index.index (Go 0)) m c.keep_statement.new.vault) c.in-Silent.is c.in_ok-keep_statement.ensures.ok)

pub returns-in-Silent-clause-part : goal.returns-in-Silent-clause-part
returns-in-Silent-clause-part g c =
    same_part c.args.vault.now c.loop-index.vault c.keep_statement.new.vault (g.K.Sink.taken c.args.sink.now) (g.K.Sink.taken c.loop-index.sink) (get_or c.args.script.now c.loop-index.index (Go 0)) c.in-Silent.cause
    c.loop-index.invariant.stays_open (subst (λ (m : Made). Yields c.loop-index.vault (get_or c.args.script.now c.loop-index.index (Go 0)) m c.keep_statement.new.vault) c.in-Silent.is c.in_ok-keep_statement.ensures.ok) c.loop-index.invariant.tells

pub returns-in-Full-clause-part : goal.returns-in-Full-clause-part
returns-in-Full-clause-part g c =
    full_part c.args.vault.now c.loop-index.vault c.keep_statement.new.vault (g.K.Sink.taken c.args.sink.now) (g.K.Sink.taken c.loop-index.sink) (get_or c.args.script.now c.loop-index.index (Go 0))
    c.loop-index.invariant.stays_open (subst (λ (m : Made). Yields c.loop-index.vault (get_or c.args.script.now c.loop-index.index (Go 0)) m c.keep_statement.new.vault) c.in-Full.is c.in_ok-keep_statement.ensures.ok) c.loop-index.invariant.tells

pub loop-index-preserved : goal.loop-index-preserved
loop-index-preserved g c =
    let first = c.args.vault.now in
    let now = c.loop-index.vault in
    let new = c.keep_statement.new.vault in
    let before = g.K.Sink.taken c.args.sink.now in
    let after = g.K.Sink.taken c.loop-index.sink in
    let yields : Yields now (get_or c.args.script.now c.loop-index.index (Go 0)) made.Event new =
    (subst (λ (m : Made). Yields c.loop-index.vault (get_or c.args.script.now c.loop-index.index (Go 0)) m c.keep_statement.new.vault) c.in-Event.is c.in_ok-keep_statement.ensures.ok) in
    let done : TellsLatest c.house.result.now.history after (g.K.Sink.taken c.tell_latest.new.sink) = c.in_ok-tell_latest-in-Event.ensures.ok in
    record {
      stays_open = yields.1;
      playing = playing_more first now new c.args.script.now c.loop-index.index (Go 0) c.loop-index-test.true c.loop-index.invariant.playing yields;
      tells = tells_told first now new c.house.result.now (get_or c.args.script.now c.loop-index.index (Go 0)) before after (g.K.Sink.taken c.tell_latest.new.sink) yields c.house.ensures.house c.loop-index.invariant.tells done;
      any_moment =
          crash_more g.D.Disk.moment g.D.Disk.left_since first.disk now.disk new.disk (acknowledged first) (acknowledged now) now.house new.house
          (acknowledged_later first now c.requires.open c.loop-index.invariant.stays_open (tells_later first.house.history now.house.history before after c.loop-index.invariant.tells))
          (yields_later now new (get_or c.args.script.now c.loop-index.index (Go 0)) yields) c.loop-index.invariant.any_moment c.keep_statement.ensures.any_moment;
      disk_counted = omega (arith, c.loop-index.invariant.disk_counted, c.keep_statement.ensures.counted);
      sink_counted = omega (arith, c.loop-index.invariant.sink_counted, c.tell_latest.ensures.counted);
    }

pub returns-clause-part : goal.returns-clause-part
returns-clause-part g c =
    part_same c.args.vault.now c.loop-index.vault c.loop-index.vault (g.K.Sink.taken c.args.sink.now) (g.K.Sink.taken c.loop-index.sink)
    c.loop-index.invariant.stays_open refl c.loop-index.invariant.tells

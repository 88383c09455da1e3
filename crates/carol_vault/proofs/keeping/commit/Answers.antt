use Rattle.std.proofs.Common.{List, ℕ, length, take}
use Rattle.carol_disk.specs.Gates.{GrowsBy}
use Rattle.carol_disk.proofs.Moments.{weaker}
use Rattle.carol_vault.specs.Vaults.{Holds}
use Rattle.carol_vault.proofs.Keepings.{holds_grown, kept_failed, ready_more}
use Rattle.carol_vault.proofs.keeping.commit.Given.{Over}
use Rattle.carol_vault.proofs.keeping.commit.Goals as goal

-- what a crash may leave shows the history, with the event or without
left : (g : Over) (c : goal.After-enter g) → (d : List ℕ) → GrowsBy (take c.args.gate (g.D.Disk.seen c.args.disk.now)) c.args.body.now d → Holds (length c.args.house.now.history) c.enter.new.house d
left g c d grows =
    holds_grown g.D.Disk.seen g.D.Disk.kept g.D.Disk.may_leave c.args.disk.now c.args.house.now c.enter.new.house c.args.gate c.args.event.now c.args.body.now d
    c.requires.ready c.requires.body c.enter.ensures grows

pub returns-clause-any_moment : goal.returns-clause-any_moment
returns-clause-any_moment g c =
    weaker g.D.Disk.moment g.D.Disk.left_since c.args.disk.now c.append-done.new.disk
    (GrowsBy (take c.args.gate (g.D.Disk.seen c.args.disk.now)) c.args.body.now) (Holds (length c.args.house.now.history) c.enter.new.house)
    (left g c) c.append-done.ensures.any_moment

pub returns-clause-ready : goal.returns-clause-ready
returns-clause-ready g c =
    ready_more g.D.Disk.seen g.D.Disk.kept g.D.Disk.may_leave c.args.disk.now c.append-done.new.disk c.args.house.now c.enter.new.house c.args.gate c.args.event.now c.args.body.now
    c.append-done.result c.requires.ready c.requires.body c.enter.ensures c.append-done.ensures.written c.append-done.ensures.durable c.append-done.ensures.kept

pub returns-clause-kept : goal.returns-clause-kept
returns-clause-kept g c =
    kept_failed g.D.Disk.seen g.D.Disk.kept g.D.Disk.may_leave c.args.disk.now c.append-done.new.disk c.args.house.now c.enter.new.house c.args.gate c.args.event.now
    c.append-done.result c.requires.ready c.enter.ensures c.append-done.ensures.unkept
    (λ d now. (returns-clause-any_moment g c).each d (g.met.D.Disk.counts_now c.append-done.new.disk (g.D.Disk.moment c.args.disk.now) d c.append-done.ensures.any_moment.later now))

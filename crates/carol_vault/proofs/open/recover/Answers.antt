use Rattle.std.proofs.Common.{◌∙◌}
use Rattle.carol_vault.proofs.Openings.{ends_kept, ends_well, stays}
use Rattle.carol_vault.proofs.open.recover.Goals as goal

pub returns-in-Err-Fault-clause-any_moment : goal.returns-in-Err-Fault-clause-any_moment
returns-in-Err-Fault-clause-any_moment g c =
    stays g.D.Disk.moment g.D.Disk.left_since c.args.disk.now c.read_whole.new.disk _ c.args.scene (g.D.Disk.seen c.args.disk.now) (g.D.Disk.may_leave c.args.disk.now)
    c.requires.durable c.read_whole.ensures.any_moment

pub returns-in-Err-NoMemory-clause-any_moment : goal.returns-in-Err-NoMemory-clause-any_moment
returns-in-Err-NoMemory-clause-any_moment g c =
    stays g.D.Disk.moment g.D.Disk.left_since c.args.disk.now c.read_whole.new.disk _ c.args.scene (g.D.Disk.seen c.args.disk.now) (g.D.Disk.may_leave c.args.disk.now)
    c.requires.durable c.read_whole.ensures.any_moment

pub returns-in-Ok-Illegal-clause-any_moment : goal.returns-in-Ok-Illegal-clause-any_moment
returns-in-Ok-Illegal-clause-any_moment g c =
    stays g.D.Disk.moment g.D.Disk.left_since c.args.disk.now c.read_whole.new.disk _ c.args.scene (g.D.Disk.seen c.args.disk.now) (g.D.Disk.may_leave c.args.disk.now)
    c.requires.durable c.read_whole.ensures.any_moment

pub returns-clause-any_moment : goal.returns-clause-any_moment
returns-clause-any_moment g c =
    stays g.D.Disk.moment g.D.Disk.left_since c.args.disk.now c.read_whole.new.disk _ c.args.scene (g.D.Disk.seen c.args.disk.now) (g.D.Disk.may_leave c.args.disk.now)
    c.requires.durable c.read_whole.ensures.any_moment

pub returns-in-Ok-finish-clause-any_moment : goal.returns-in-Ok-finish-clause-any_moment
returns-in-Ok-finish-clause-any_moment g c =
    ends_well g.D.Disk.moment g.D.Disk.left_since c.args.disk.now c.read_whole.new.disk c.finish.new.disk c.args.accepted c.args.scene (g.D.Disk.seen c.args.disk.now) (g.D.Disk.may_leave c.args.disk.now)
    c.in-Ok-Sound.house c.in-Ok-Sound.place c.as_slice.result.now (c.as_slice.ensures.value ∙ c.in-Ok.ensures.bytes) (rw c.in-Ok-Sound.field-0-is at c.in-Ok-Sound.ensures)
    c.requires.durable c.read_whole.ensures.any_moment c.finish.ensures.any_moment

pub returns-in-Ok-Sound-clause-any_moment : goal.returns-in-Ok-Sound-clause-any_moment
returns-in-Ok-Sound-clause-any_moment g c =
    ends_well g.D.Disk.moment g.D.Disk.left_since c.args.disk.now c.read_whole.new.disk c.finish.new.disk c.args.accepted c.args.scene (g.D.Disk.seen c.args.disk.now) (g.D.Disk.may_leave c.args.disk.now)
    c.in-Ok-Sound.house c.in-Ok-Sound.place c.as_slice.result.now (c.as_slice.ensures.value ∙ c.in-Ok.ensures.bytes) (rw c.in-Ok-Sound.field-0-is at c.in-Ok-Sound.ensures)
    c.requires.durable c.read_whole.ensures.any_moment c.finish.ensures.any_moment

pub returns-in-Ok-finish-clause-kept : goal.returns-in-Ok-finish-clause-kept
returns-in-Ok-finish-clause-kept g c =
    ends_kept (g.D.Disk.kept c.args.disk.now) (g.D.Disk.kept c.read_whole.new.disk) (g.D.Disk.kept c.finish.new.disk) c.args.accepted c.args.scene (g.D.Disk.seen c.args.disk.now)
    c.in-Ok-Sound.house c.in-Ok-Sound.place c.as_slice.result.now (c.as_slice.ensures.value ∙ c.in-Ok.ensures.bytes) (rw c.in-Ok-Sound.field-0-is at c.in-Ok-Sound.ensures)
    c.read_whole.ensures.kept c.finish.ensures.kept

pub returns-in-Ok-Sound-clause-kept : goal.returns-in-Ok-Sound-clause-kept
returns-in-Ok-Sound-clause-kept g c =
    ends_kept (g.D.Disk.kept c.args.disk.now) (g.D.Disk.kept c.read_whole.new.disk) (g.D.Disk.kept c.finish.new.disk) c.args.accepted c.args.scene (g.D.Disk.seen c.args.disk.now)
    c.in-Ok-Sound.house c.in-Ok-Sound.place c.as_slice.result.now (c.as_slice.ensures.value ∙ c.in-Ok.ensures.bytes) (rw c.in-Ok-Sound.field-0-is at c.in-Ok-Sound.ensures)
    c.read_whole.ensures.kept c.finish.ensures.kept

use Rattle.carol_kept_run.proofs.Playings.{Keeping}
use Rattle.carol_kept_run.proofs.script.keep_script.Given as goal

abbrev pub invariant-loop-index : goal.invariant-loop-index
invariant-loop-index g l =
    Keeping g.D.Disk.moment g.D.Disk.left_since g.D.Disk.faults g.K.Sink.taken g.K.Sink.faults l.fn.vault l.script l.index l.fn.sink l.sink l.vault

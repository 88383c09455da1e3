use Rattle.carol_worker.proofs.Going.{AreDoneBelow}
use Rattle.carol_worker.proofs.finish.finish.Given as goal

abbrev pub invariant-loop-session : goal.invariant-loop-session
invariant-loop-session l = AreDoneBelow l.fn.house l.house l.session

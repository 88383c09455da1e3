use Rattle.carol_worker.proofs.Stepping.{went_on}
use Rattle.carol_worker.proofs.serving.serve.Goals as goal

pub loop-preserved : goal.loop-preserved
loop-preserved g c = (
  went_on _ _ _ _ _ _ c.loop.invariant.0 c.step.ensures.counted (rw c.in-Ok-Entered.field-0-is at c.in-Ok-Entered.ensures.stepped),
  g.met.D.Desk.goes_on _ _ _ _ c.loop.invariant.1 c.step.ensures.only,
)

use Rattle.std.proofs.Common.{rules}
use Rattle.carol_store.proofs.Cells.{AreWords-before}
use Rattle.carol_store.proofs.store.as_words.Goals as goal

pub loop-number-preserved : goal.loop-number-preserved
loop-number-preserved c = λ h. c.loop-number.invariant (AreWords-before _ _ _ c.in-Some.ensures.cases.0 (search rules) h)

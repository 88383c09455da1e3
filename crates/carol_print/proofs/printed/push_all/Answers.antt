use Rattle.carol_print.proofs.Texts.{one_more}
use Rattle.carol_print.proofs.printed.push_all.Goals as goal

pub loop-item-preserved : goal.loop-item-preserved
loop-item-preserved g c =
    one_more g.T.Printed.pieces _ _ c.item-item.result _ _ _ c.loop-item-test.true c.item-item.is c.in_ok-push_to.ensures c.loop-item.invariant

use Rattle.carol_print.proofs.Texts.{commas_begun, comma_more}
use Rattle.carol_print.proofs.printed.push_with_commas.Goals as goal

pub loop-item-init : goal.loop-item-init
loop-item-init g c = commas_begun g.T.Printed.pieces _ _ c.in-Some.first.now _ _ c.in-Some.ensures.cases.0 c.in_ok-push_to.ensures

pub loop-item-preserved : goal.loop-item-preserved
loop-item-preserved g c =
    comma_more g.T.Printed.pieces _ _ c.item-item.result _ _ _ _ c.loop-item-test.true c.item-item.is c.in_ok-push_text.ensures c.in_ok-push_to-2.ensures c.loop-item.invariant

use Rattle.carol_meaning.specs.Terms.{product_faults}
use Rattle.carol_names.proofs.NameLaws.{faults_more}
use Rattle.carol_names.proofs.Bounds.{more-bounded}
use Rattle.carol_names.proofs.Meanings.{sum_more}
use Rattle.carol_names.proofs.terms.sum.Goals as goal

pub loop-part-preserved : goal.loop-part-preserved
loop-part-preserved g c = (
  faults_more (product_faults (g.G.Ground.look c.args.place.now)) c.args.products.now c.loop-part.part-index c.part-item.result _ _ _ c.loop-part-test.true c.part-item.is c.in_ok-worth.ensures.faults c.loop-part.invariant.0,
  sum_more (g.G.Ground.look c.args.place.now) c.args.products.now c.loop-part.part-index c.part-item.result _ _ _ _ c.loop-part-test.true c.part-item.is c.in_ok-worth.ensures.worth c.in_ok-sum.ensures c.loop-part.invariant.1,
  more-bounded c.loop-part.part-index _ _ _ c.in_ok-sum.ensures c.loop-part.invariant.2 c.in_ok-worth.ensures.bounded,
)

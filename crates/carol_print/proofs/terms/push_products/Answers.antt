use Rattle.carol_print.proofs.Sums.{sum_begun, product_more}
use Rattle.carol_print.proofs.terms.push_products.Goals as goal

pub loop-product-init : goal.loop-product-init
loop-product-init c = sum_begun _ _ c.in-Some.first.now _ _ c.in-Some.ensures.cases.0 c.in_ok-push_first.ensures

pub loop-product-preserved : goal.loop-product-preserved
loop-product-preserved c =
    product_more _ _ c.product-item.result _ _ _ c.loop-product-test.true c.product-item.is c.in_ok-push_next.ensures c.loop-product.invariant

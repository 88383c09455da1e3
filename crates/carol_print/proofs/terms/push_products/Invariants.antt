use Rattle.std.proofs.Common.{◌≡◌, ◌++◌, drop}
use Rattle.carol_print.specs.Pieces.{text_of}
use Rattle.carol_print.specs.Canonical.{more_products, sum_of}
use Rattle.carol_print.proofs.terms.push_products.Given as goal

abbrev pub invariant-loop-product : goal.invariant-loop-product
invariant-loop-product l =
    l.out.items ++ text_of (more_products (drop l.product-index l.more)) ≡ l.fn.out.items ++ text_of (sum_of l.fn.products)

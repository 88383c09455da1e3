use Rattle.carol_text.proofs.Found.{narrowed}
use Rattle.carol_text.proofs.read.integer.Goals as goal

pub returns-clause-found : goal.returns-clause-found
returns-clause-found c =
    let h = c.in_ok-value.ensures.found in
    let n = narrowed c.args.lowest c.args.highest c.from.result c.from-2.result c.in_ok-value.value c.ranges.lowest c.ranges.highest c.from.ensures c.from-2.ensures h.0 h.1 in
    rw n.0 (n.1, n.2, h.2)

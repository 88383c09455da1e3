use Rattle.std.proofs.Common.{sym}
use Rattle.carol_names.proofs.Bounds.{small-bounded}
use Rattle.carol_resolve.proofs.terms.small_or_none.Goals as goal

pub returns-then-is_small-clause-bounded : goal.returns-then-is_small-clause-bounded
returns-then-is_small-clause-bounded c = small-bounded c.in-Some.term c.pairs-pairs.ensures.term.normal (sym c.if-is_small.ensures)

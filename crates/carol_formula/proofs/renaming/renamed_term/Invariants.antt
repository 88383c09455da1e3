use Rattle.std.proofs.Common.{length}
use Rattle.carol_formula.proofs.Renamings.{Renamed}
use Rattle.carol_formula.proofs.renaming.renamed_term.Given as goal

abbrev pub invariant-loop-product : goal.invariant-loop-product
invariant-loop-product g l = Renamed (g.N.Naming.can_name l.fn.naming) (g.N.Naming.name_of l.fn.naming) l.fn.term l.sum l.left

abbrev pub decreases-loop-product : goal.decreases-loop-product
decreases-loop-product g l = length l.left

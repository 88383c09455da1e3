use Rattle.std.proofs.Common.{◌+◌, ◌*◌, ◌∷◌}
use Rattle.carol_cert.specs.Place.{claims_at}
use Rattle.carol_cert.specs.Proof.{Branch, proof_of}
use Rattle.carol_cert.specs.Left.{claims_below, waiting}
use Rattle.carol_cert.specs.Block.{held, IsBlock}
use Rattle.carol_cert.proofs.Walks.{size_of, size_left, Stands}
use Rattle.carol_cert.proofs.checker.+walk.Given as goal

-- three steps lead from a tree to one inside it
abbrev pub decreases-walk : goal.decreases-walk
decreases-walk l = 3 * size_of (proof_of l.tree.now)

abbrev pub decreases-walk_more : goal.decreases-walk_more
decreases-walk_more l = 3 * size_of (proof_of l.tree.now) + 1

abbrev pub decreases-walk_replaced : goal.decreases-walk_replaced
decreases-walk_replaced l = 3 * size_of (proof_of l.tree.now) + 1

abbrev pub decreases-walk_part : goal.decreases-walk_part
decreases-walk_part l = 3 * size_of (proof_of l.rest.now) + 2

abbrev pub decreases-walk_split : goal.decreases-walk_split
decreases-walk_split l = 3 * (size_of (proof_of l.left.now) + size_of (proof_of l.right.now)) + 2

abbrev pub decreases-walk_branch : goal.decreases-walk_branch
decreases-walk_branch l = 3 * (size_of (proof_of l.low.now) + size_of (proof_of l.high.now)) + 2

abbrev pub decreases-walk_branches : goal.decreases-walk_branches
decreases-walk_branches l = 3 * (size_of (proof_of l.low.now) + size_of (proof_of l.high.now)) + 2

-- the tree at hand is left, and the high sides that wait
abbrev pub invariant-walk_branches-loop-tree : goal.invariant-walk_branches-loop-tree
invariant-walk_branches-loop-tree l = record {
  block : IsBlock l.block;
  stands : Stands (Branch l.fn.variable l.fn.k (proof_of l.fn.low) (proof_of l.fn.high)) (claims_at l.fn.place) l.walked
      ((proof_of l.tree, claims_below (claims_at l.fn.place) (held l.block)) ∷ waiting (claims_at l.fn.place) (held l.block));
}

abbrev pub decreases-walk_branches-loop-tree : goal.decreases-walk_branches-loop-tree
decreases-walk_branches-loop-tree l = size_left ((proof_of l.tree, claims_below (claims_at l.fn.place) (held l.block)) ∷ waiting (claims_at l.fn.place) (held l.block))

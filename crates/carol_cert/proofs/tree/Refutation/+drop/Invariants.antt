use Rattle.std.proofs.Common.{◌≤◌}
use Rattle.carol_cert.specs.Proof.{rank_of}
use Rattle.carol_cert.proofs.tree.Refutation.+drop.Given as goal

abbrev pub decreases-drop : goal.decreases-drop
decreases-drop l = rank_of l.self

-- what is left ranks no higher than the whole
abbrev pub invariant-loop-self : goal.invariant-loop-self
invariant-loop-self l = rank_of l.self ≤ rank_of l.initial.self

abbrev pub decreases-loop-self : goal.decreases-loop-self
decreases-loop-self l = rank_of l.self

use Rattle.std.proofs.Common.{◌≡◌, List}
use Rattle.carol_formula.specs.Claim.{Claim}
use Rattle.carol_cert.specs.Left.{waiting}
use Rattle.carol_cert.specs.Block.{held, IsBlock}
use Rattle.carol_cert.proofs.block.Block.turn.Given as goal

-- the branches that were taken away have nothing that waits
abbrev pub invariant-loop-bound : goal.invariant-loop-bound
invariant-loop-bound l = record {
  right : IsBlock l.self;
  same : (claims : List Claim) → waiting claims (held l.self) ≡ waiting claims (held l.fn.self);
}

abbrev pub decreases-loop-bound : goal.decreases-loop-bound
decreases-loop-bound l = l.self.count

use Rattle.carol_decide.specs.Piece.{claims_in}
use Rattle.carol_decide.proofs.Looking.{FirstAreRows}
use Rattle.carol_decide.proofs.fork.first.Given as goal

abbrev pub invariant-loop-at : goal.invariant-loop-at
invariant-loop-at l = FirstAreRows l.at (claims_in l.pieces)

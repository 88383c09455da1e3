use Rattle.std.proofs.Common.{[], ◌∷◌, subst}
use Rattle.carol_elimination.specs.Due.{AreRows}
use Rattle.carol_decide.specs.Sizes.{IsReady}
use Rattle.carol_decide.specs.Piece.{claim_of_piece}
use Rattle.carol_decide.proofs.Looking.{look_more, stands_piece}
use Rattle.carol_decide.proofs.fork.first.Goals as goal

pub returns-in-Either : goal.returns-in-Either
returns-in-Either c = (stands_piece c.args.pieces.now c.loop-at.at c.index-pieces-at.result c.loop-at-test.true c.index-pieces-at.is, c.in-Either.ensures)

pub loop-at-preserved : goal.loop-at-preserved
loop-at-preserved c =
    look_more c.args.pieces.now c.loop-at.at c.index-pieces-at.result c.loop-at-test.true (subst (λ p. IsReady (claim_of_piece p) → AreRows (claim_of_piece p ∷ [])) c.index-pieces-at.is c.in-Plain.ensures) c.loop-at.invariant

use Rattle.carol_decide.specs.Piece.{claims_in}
use Rattle.carol_decide.proofs.Filling.{Fills}
use Rattle.carol_decide.proofs.table.table_of.Given as goal

abbrev pub invariant-loop-at : goal.invariant-loop-at
invariant-loop-at l = Fills (claims_in l.pieces) l.at l.table

use Rattle.std.proofs.Common.{◌≡◌, ◌+◌, length, List, ◌++◌}
use Rattle.carol_syntax.specs.declared.lexeme.Lexeme.{Lexeme}
use Rattle.carol_syntax.specs.declared.lexeme.Stop.{Stop}
use Rattle.carol_syntax.specs.declared.place.Place.{Place}
use Rattle.carol_syntax.specs.Place.{start}
use Rattle.carol_syntax.specs.Cut.{Cut, StandBetween}
use Rattle.carol_syntax.specs.Cursor.{CutHere, IsHere}
use Rattle.carol_syntax.proofs.lexeme.cut.Given as goal

abbrev pub invariant-loop-lexeme : goal.invariant-loop-lexeme
invariant-loop-lexeme l = record {
  rest : (more : List Lexeme) (stop : Stop) (end : Place) → CutHere l.here more stop end → Cut start l.bytes (l.list ++ more) stop end;
  ordered : StandBetween 0 l.list l.here.at.offset;
  sound : IsHere l.here;
  offset : l.here.at.offset + length l.here.rest.now ≡ length l.bytes;
}

abbrev pub decreases-loop-lexeme : goal.decreases-loop-lexeme
decreases-loop-lexeme l = length l.here.rest.now

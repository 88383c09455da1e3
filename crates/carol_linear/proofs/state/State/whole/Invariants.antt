use Rattle.std.proofs.Common.{◌≡◌, ◌++◌, take}
use Rattle.carol_elimination.specs.Entries.{terms_of}
use Rattle.carol_linear.specs.Place.{names_from}
use Rattle.carol_linear.specs.Path.{frame_rows}
use Rattle.carol_linear.proofs.state.State.whole.Given as goal

abbrev pub invariant-loop-before : goal.invariant-loop-before
invariant-loop-before l = record {
  rows : terms_of l.place.rows.items ≡ terms_of l.rows ++ frame_rows (take l.before l.self.frames.items);
  names : l.place.names.items ≡ l.names ++ names_from l.self.claims (frame_rows (take l.before l.self.frames.items));
}

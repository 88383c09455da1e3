use Rattle.std.proofs.Common.{◌≡◌, take}
use Rattle.carol_elimination.specs.Entries.{terms_of}
use Rattle.carol_linear.specs.Path.{frame_rows}
use Rattle.carol_linear.proofs.state.branch_rows.Given as goal

abbrev pub invariant-loop-frame : goal.invariant-loop-frame
invariant-loop-frame l = terms_of l.rows ≡ frame_rows (take l.frame-index l.frames)

use Rattle.std.proofs.Common.{◌≡◌, length, reverse, take}
use Rattle.carol_disk.specs.Tapes.{seen_after}
use Rattle.carol_disk.specs.Windows.{Agrees}
use Rattle.carol_disk.proofs.overlay.read_calls.Given as goal

abbrev pub invariant-loop-call : goal.invariant-loop-call
invariant-loop-call l = record {
  wide : length l.window ≡ length l.fn.window;
  agrees : Agrees l.at l.window (seen_after l.first (reverse (take l.call-index l.calls)));
}

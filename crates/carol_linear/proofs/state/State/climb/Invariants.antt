use Rattle.std.proofs.Common.{◌≡◌, ◌≤◌, length}
use Rattle.carol_cert.specs.Proof.{proof_of}
use Rattle.carol_linear.specs.Path.{waiting_on}
use Rattle.carol_linear.specs.State.{Start, IsUnder}
use Rattle.carol_linear.proofs.state.State.climb.Given as goal

abbrev pub invariant-loop-frame : goal.invariant-loop-frame
invariant-loop-frame l = record {
  under : (start : Start) → IsUnder start l.initial.self (proof_of l.initial.tree) → IsUnder start l.self (proof_of l.tree);
  waiting : waiting_on l.self.frames.items ≤ waiting_on l.initial.self.frames.items;
  left : l.self.left ≡ l.initial.self.left;
}

abbrev pub decreases-loop-frame : goal.decreases-loop-frame
decreases-loop-frame l = length l.self.frames.items

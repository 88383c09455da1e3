use Rattle.std.proofs.Common.{◌≡◌, ◌+◌, ◌≤◌, length}
use Rattle.carol_audit.specs.Lines.{parting}
use Rattle.carol_audit.proofs.compare.parting_line.Given as goal

abbrev pub invariant-loop-byte : goal.invariant-loop-byte
invariant-loop-byte l = (parting l.number l.one l.other ≡ parting 1 l.right l.text) × (l.number + length l.other ≤ 1 + length l.text)

abbrev pub decreases-loop-byte : goal.decreases-loop-byte
decreases-loop-byte l = length l.one

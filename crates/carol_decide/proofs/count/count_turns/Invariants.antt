use Rattle.std.proofs.Common.{◌≡◌, ◌+◌}
use Rattle.carol_cert.specs.Proof.{proof_of}
use Rattle.carol_cert.specs.Counts.{turns_of}
use Rattle.carol_decide.proofs.Counting.{turns_waiting, rank_waiting}
use Rattle.carol_decide.proofs.count.count_turns.Given as goal

abbrev pub invariant-loop-next : goal.invariant-loop-next
invariant-loop-next l = l.turns + turns_waiting l.waiting.items ≡ turns_of (proof_of l.fn.tree)

abbrev pub decreases-loop-next : goal.decreases-loop-next
decreases-loop-next l = rank_waiting l.waiting.items

use Rattle.std.proofs.Common.{◌≡◌, ◌++◌, length}
use Rattle.carol_advise_word.specs.Texts.{spaced_names}
use Rattle.carol_advise_word.proofs.text.push_spaced.Given as goal

abbrev pub invariant-loop-guard : goal.invariant-loop-guard
invariant-loop-guard l = l.out.items ++ spaced_names l.names l.left ≡ l.fn.out.items ++ spaced_names l.names l.guards

abbrev pub decreases-loop-guard : goal.decreases-loop-guard
decreases-loop-guard l = length l.left

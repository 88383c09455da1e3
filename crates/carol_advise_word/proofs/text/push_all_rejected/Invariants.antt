use Rattle.std.proofs.Common.{◌≡◌, ◌++◌, length}
use Rattle.carol_advise_word.specs.Texts.{rejected_texts}
use Rattle.carol_advise_word.proofs.text.push_all_rejected.Given as goal

abbrev pub invariant-loop-first : goal.invariant-loop-first
invariant-loop-first l = l.out.items ++ rejected_texts l.program l.left ≡ l.fn.out.items ++ rejected_texts l.program l.rejected

abbrev pub decreases-loop-first : goal.decreases-loop-first
decreases-loop-first l = length l.left

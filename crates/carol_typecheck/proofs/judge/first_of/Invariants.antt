use Rattle.std.specs.Vec.Iter.{into_iter_items, into_iter_len}
use Rattle.carol_typecheck.proofs.Scanning.{Scanning}
use Rattle.carol_typecheck.proofs.judge.first_of.Given as goal

abbrev pub invariant-loop-answer : goal.invariant-loop-answer
invariant-loop-answer l =
    (goal.iterator-loop-answer).can_next l.answer-iterator ×
    (goal.iterator-loop-answer).is_finite l.answer-iterator ×
    Scanning l.fn.answers.items (into_iter_items l.answer-iterator) (into_iter_len l.answer-iterator)

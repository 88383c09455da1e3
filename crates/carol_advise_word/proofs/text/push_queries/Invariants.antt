use Rattle.std.proofs.Common.{◌≡◌, ◌++◌, drop}
use Rattle.carol_advise_word.specs.Texts.{query_lines}
use Rattle.carol_advise_word.proofs.text.push_queries.Given as goal

abbrev pub invariant-loop-slot : goal.invariant-loop-slot
invariant-loop-slot l = l.out.items ++ query_lines l.names l.op l.slot (drop l.slot l.guards) ≡ l.fn.out.items ++ query_lines l.names l.op 0 l.guards

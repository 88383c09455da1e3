use Rattle.std.proofs.Common.{◌≡◌, ◌-◌}
use Rattle.carol_grammar.specs.Reading.{read_many, next_in, behind}
use Rattle.carol_grammar.specs.Terminals.{class_of}
use Rattle.carol_reader.proofs.lists.many.Given as goal

abbrev pub invariant-loop : goal.invariant-loop
invariant-loop g l = behind l.all (read_many (l.reader.count - l.counter) (next_in class_of g.M.Member.starts) (g.M.Member.reading l.reader) l.rest) ≡ behind l.fn.front (read_many l.reader.count (next_in class_of g.M.Member.starts) (g.M.Member.reading l.reader) l.tokens)

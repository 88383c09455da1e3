use Rattle.std.proofs.Common.{◌≡◌, ◌++◌, ◌<◌, length}
use Rattle.std.specs.List.{AllByRecursion}
use Rattle.carol_program.specs.Limits.{most_queries}
use Rattle.carol_accept.specs.Lines.{queries_text}
use Rattle.carol_accept.specs.Named.{variable_text}
use Rattle.carol_accept.proofs.lines.Shown.push_queries.Given as goal

abbrev pub invariant-loop-first : goal.invariant-loop-first
invariant-loop-first g l =
    (l.out.items ++ queries_text (variable_text l.self.names.now l.self.place) (g.L.Lookup.numbers l.self.numbers.now) l.cells l.left
    ≡ l.fn.out.items ++ queries_text (variable_text l.self.names.now l.self.place) (g.L.Lookup.numbers l.self.numbers.now) l.cells l.asked)
    × AllByRecursion (λ a. a.slot < most_queries) l.left

abbrev pub decreases-loop-first : goal.decreases-loop-first
decreases-loop-first g l = length l.left

use Rattle.std.proofs.Common.{◌≡◌, ◌++◌, ◌+◌, ◌-◌}
use Rattle.carol_accept.specs.Lines.{rounds_text}
use Rattle.carol_accept.specs.Named.{variable_text}
use Rattle.carol_accept.proofs.lines.Shown.push_rounds.Given as goal

abbrev pub invariant-loop-round : goal.invariant-loop-round
invariant-loop-round g l =
    l.out.items ++ rounds_text (variable_text l.self.names.now l.self.place) (g.L.Lookup.numbers l.self.numbers.now) l.cells l.trail ((l.trail.rounds + 1) - l.round) l.round
    ≡ l.fn.out.items ++ rounds_text (variable_text l.self.names.now l.self.place) (g.L.Lookup.numbers l.self.numbers.now) l.cells l.trail (l.trail.rounds + 1) 0

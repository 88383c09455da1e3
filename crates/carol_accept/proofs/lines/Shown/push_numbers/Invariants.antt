use Rattle.std.proofs.Common.{◌≡◌, ◌++◌, ◌+◌, ◌-◌}
use Rattle.carol_accept.specs.Lines.{numbers_text}
use Rattle.carol_accept.specs.Named.{variable_text}
use Rattle.carol_accept.proofs.lines.Shown.push_numbers.Given as goal

abbrev pub invariant-loop-i : goal.invariant-loop-i
invariant-loop-i g l =
    l.out.items ++ numbers_text (variable_text l.self.names.now l.self.place) (g.L.Lookup.numbers l.self.numbers.now) (l.count - l.i) (l.named + l.i) (l.shown + l.i)
    ≡ l.fn.out.items ++ numbers_text (variable_text l.self.names.now l.self.place) (g.L.Lookup.numbers l.self.numbers.now) l.count l.named l.shown

use Rattle.std.proofs.Common.{◌++◌}
use Rattle.carol_accept.specs.Lines.{numbers_text}
use Rattle.carol_accept.specs.Named.{variable_text}
use Rattle.carol_accept.proofs.Texts.{numbers_more}
use Rattle.carol_accept.proofs.lines.Shown.push_numbers.Goals as goal

pub loop-i-preserved : goal.loop-i-preserved
loop-i-preserved g c =
    let name = variable_text c.args.self.now.names.now c.args.self.now.place in
    let f = g.L.Lookup.numbers c.args.self.now.numbers.now in
    rw c.in_ok-push_line.ensures
    (numbers_more c.loop-i.out.items name f c.args.count c.loop-i.i c.args.named c.args.shown (c.args.out.now.items ++ numbers_text name f c.args.count c.args.named c.args.shown) c.loop-i-test.true c.loop-i.invariant)

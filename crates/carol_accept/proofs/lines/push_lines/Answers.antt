use Rattle.carol_program.specs.Rules.{rules_in}
use Rattle.carol_accept.proofs.Texts.{at_statement}
use Rattle.carol_accept.proofs.lines.push_lines.Goals as goal

pub returns-in-Amount : goal.returns-in-Amount
returns-in-Amount g c =
    at_statement (rules_in c.args.program.now) c.args.program.now.names (g.L.Lookup.numbers c.args.numbers.now) c.args.place c.in-Amount.op c.in-Amount.number c.push_statement.result c.args.out.now.items c.push_statement.new.out.items c.in-Amount.is c.push_statement.ensures

use Rattle.std.proofs.Common.{◌∙◌}
use Rattle.carol_grammar.specs.Rules.{numbers}
use Rattle.carol_reader.proofs.Classes.{numbers_within}
use Rattle.carol_reader.proofs.terminals.number.Goals as goal

pub returns-clause-reads : goal.returns-clause-reads
returns-clause-reads c = c.taken.ensures.reads numbers (c.next_within.ensures ∙ numbers_within c.args.tokens.now)

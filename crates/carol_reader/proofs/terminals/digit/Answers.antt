use Rattle.std.proofs.Common.{◌∙◌}
use Rattle.carol_grammar.specs.Rules.{digits}
use Rattle.carol_reader.proofs.Classes.{digits_within}
use Rattle.carol_reader.proofs.terminals.digit.Goals as goal

pub returns-clause-reads : goal.returns-clause-reads
returns-clause-reads c = c.taken.ensures.reads digits (c.next_within.ensures ∙ digits_within c.args.tokens.now)

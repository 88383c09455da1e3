use Rattle.std.proofs.Common.{◌∙◌}
use Rattle.carol_grammar.specs.Rules.{positives}
use Rattle.carol_reader.proofs.Classes.{positive_within}
use Rattle.carol_reader.proofs.terminals.positive.Goals as goal

pub returns-clause-reads : goal.returns-clause-reads
returns-clause-reads c = c.taken.ensures.reads positives (c.next_within.ensures ∙ positive_within c.args.tokens.now)

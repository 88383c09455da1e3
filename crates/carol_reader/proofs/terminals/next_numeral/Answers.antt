use Rattle.std.proofs.Common.{◌∙◌}
use Rattle.carol_reader.proofs.Classes.{numbers_within}
use Rattle.carol_reader.proofs.terminals.next_numeral.Goals as goal

pub returns : goal.returns
returns c = c.next_within.ensures ∙ numbers_within c.args.tokens.now

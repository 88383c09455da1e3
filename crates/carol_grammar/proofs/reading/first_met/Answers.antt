use Rattle.std.proofs.Common.{subst}
use Rattle.carol_grammar.specs.Reach.{NoByteIsPast}
use Rattle.carol_grammar.proofs.FirstMet.{first_of_tokens}
use Rattle.carol_grammar.proofs.reading.first_met.Goals as goal

pub returns-then-not-is_too_long : goal.returns-then-not-is_too_long
returns-then-not-is_too_long c = first_of_tokens c.args.bytes.now c.args.text.now.list c.token_met-met.result (subst (NoByteIsPast c.args.bytes.now) c.as_slice.ensures c.if-not-is_too_long.ensures) c.token_met-met.ensures

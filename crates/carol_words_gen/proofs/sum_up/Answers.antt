use Rattle.std.proofs.Common.{[]}
use Rattle.carol_reply.proofs.Agreeing.{reply_of}
use Rattle.carol_words_gen.specs.Gen.{gen_meaning}
use Rattle.carol_words_gen.proofs.Summed.{sums}
use Rattle.carol_words_gen.proofs.sum_up.Goals as goal

pub returns : goal.returns
returns g c =
    reply_of (gen_meaning c.args.count) [] c.history.result c.ended.result (sums c.one_outcome.ensures c.turns_laws.ensures c.args.count) c.history.ensures c.ended.ensures

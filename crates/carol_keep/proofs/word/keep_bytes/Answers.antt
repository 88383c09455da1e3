use Rattle.carol_keep.specs.Keep.{keep_meaning}
use Rattle.carol_keep.proofs.Settled.{keeps}
use Rattle.carol_keep.proofs.word.keep_bytes.Goals as goal
use Rattle.carol_reply.proofs.Agreeing.{reply_of}

pub returns : goal.returns
returns g c =
    reply_of (keep_meaning c.args.stop) c.args.bytes.now c.history.result c.ended.result (keeps c.one_outcome.ensures c.history_laws.ensures.one_script c.args.stop) c.history.ensures c.ended.ensures

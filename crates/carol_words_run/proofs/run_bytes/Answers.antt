use Rattle.carol_reply.proofs.Agreeing.{reply_of}
use Rattle.carol_words_run.specs.Run.{run_meaning}
use Rattle.carol_words_run.proofs.Ran.{runs}
use Rattle.carol_words_run.proofs.run_bytes.Goals as goal

pub returns : goal.returns
returns g c = reply_of run_meaning c.args.bytes.now c.history.result c.ended.result (runs c.one_outcome.ensures) c.history.ensures c.ended.ensures

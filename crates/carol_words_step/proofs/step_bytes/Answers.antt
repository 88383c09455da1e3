use Rattle.carol_reply.proofs.Agreeing.{reply_of}
use Rattle.carol_words_step.specs.Step.{step_meaning}
use Rattle.carol_words_step.proofs.Stepped.{steps}
use Rattle.carol_words_step.proofs.step_bytes.Goals as goal

pub returns : goal.returns
returns g c =
    reply_of step_meaning c.args.bytes.now c.history.result c.ended.result (steps c.one_outcome.ensures c.history_laws.ensures.one_script) c.history.ensures c.ended.ensures

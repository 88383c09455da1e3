use Rattle.carol_reply.proofs.Agreeing.{reply_of}
use Rattle.carol_words_check.specs.Check.{check_meaning}
use Rattle.carol_words_check.proofs.Checked.{checks}
use Rattle.carol_words_check.proofs.check_bytes.Goals as goal

pub returns : goal.returns
returns g c = reply_of check_meaning c.args.bytes.now c.accords.result c.ended.result (checks c.one_outcome.ensures) c.accords.ensures c.ended.ensures

use Rattle.std.proofs.Common.{List, ℕ, subst}
use Rattle.carol_reply.specs.Reply.{Ends}
use Rattle.carol_reply.proofs.Agreeing.{reply_of}
use Rattle.carol_advise_word.specs.Advise.{AdviseSays, advise_meaning}
use Rattle.carol_advise_word.specs.OpWord.{word_of}
use Rattle.carol_advise_word.proofs.Advising.{settled}
use Rattle.carol_advise_word.proofs.word.advise_bytes.Goals as goal

pub returns : goal.returns
returns g c =
    let ends : Ends (AdviseSays (word_of c.args.op) c.args.bytes.now) c.answer.result =
    subst (λ (n : List ℕ). Ends (AdviseSays n c.args.bytes.now) c.answer.result) c.bytes-name.ensures c.answer.ensures in
    reply_of (advise_meaning c.args.op) c.args.bytes.now c.answer.result c.ended.result (settled c.one_outcome.ensures c.args.op) ends c.ended.ensures

use Rattle.carol_reply.specs.Reply.{answer_of}
use Rattle.carol_tool.proofs.Meaning.{meant_unread}
use Rattle.carol_tool.proofs.call.gen_reply.Goals as goal

pub returns : goal.returns
returns g c = λ end. meant_unread end c.args.count (answer_of c.in_ok-sum_up.field-0) c.in_ok-sum_up.ensures

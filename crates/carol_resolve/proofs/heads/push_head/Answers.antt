use Rattle.carol_resolve.proofs.Chains.{with_heads-append}
use Rattle.carol_resolve.proofs.heads.push_head.Goals as goal

pub returns : goal.returns
returns c = λ next. rw c.in_ok-push.ensures.items (with_heads-append c.args.heads.now.items c.args.head next)

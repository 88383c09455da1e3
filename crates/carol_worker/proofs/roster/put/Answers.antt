use Rattle.std.proofs.Common.{ap, sym}
use Rattle.carol_worker.specs.declared.rule.Hand.{Hand}
use Rattle.carol_worker.proofs.Dealing.{puts, sees_short}
use Rattle.carol_worker.proofs.roster.put.Goals as goal

pub push_as-put-requires-clause-rule : goal.push_as-put-requires-clause-rule
push_as-put-requires-clause-rule g c =
    let makes = ap (λ (h : Hand). h.makes) c.requires.view in
    (puts _ _ _ _ makes (sym (ap (λ (h : Hand). h.count) c.requires.view)), sees_short _ _ makes)

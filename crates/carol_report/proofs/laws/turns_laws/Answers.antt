use Rattle.carol_report.proofs.Single.{turns_single}
use Rattle.carol_report.proofs.laws.turns_laws.Goals as goal

pub returns : goal.returns
returns c p scene = turns_single p scene (λ past. c.history_laws.ensures.single p scene past)

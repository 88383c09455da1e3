use Rattle.std.proofs.Common.{length, ◌∙◌, ap}
use Rattle.std.proofs.lemmas.List.{length-reverse}
use Rattle.carol_report.specs.Turns.{IsFull}
use Rattle.carol_report.proofs.Turning.{done_is_over}
use Rattle.carol_report.proofs.rounds.is_over.Goals as goal

pub returns-else-full-clause-over : goal.returns-else-full-clause-over
returns-else-full-clause-over c =
    let house = c.args.house.now
    in let not_full : IsFull house.history → ⊥ = λ full. c.if-full.false (ap length c.history.ensures.events ∙ length-reverse house.history ∙ full)
    in done_is_over house.scene house.history c.all_done.result not_full (c.history_laws.ensures.done house.scene house.history) c.all_done.ensures

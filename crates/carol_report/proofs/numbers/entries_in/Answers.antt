use Rattle.std.proofs.Common.{◌∙◌}
use Rattle.carol_report.proofs.Counts.{entries_are}
use Rattle.carol_report.proofs.numbers.entries_in.Goals as goal

pub returns : goal.returns
returns c = c.issues_in.ensures ∙ entries_are c.args.house.now.history c.history.result.now c.history.ensures.events

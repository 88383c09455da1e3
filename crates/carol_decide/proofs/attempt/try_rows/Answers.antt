use Rattle.std.proofs.Common.{subst, ap, ◌∙◌}
use Rattle.std.specs.Prelude.{Some}
use Rattle.carol_decide.specs.Table.{IsDifferenceAnswer}
use Rattle.carol_decide.proofs.Settling.{closes_terms}
use Rattle.carol_decide.proofs.attempt.try_rows.Goals as goal

pub returns-in-Refuted : goal.returns-in-Refuted
returns-in-Refuted c = closes_terms c.args.rows.now c.in-Refuted.steps (subst (IsDifferenceAnswer c.args.rows.now) (c.in-Some.is ∙ ap Some c.in-Refuted.is) c.in_ok-answer.ensures).0

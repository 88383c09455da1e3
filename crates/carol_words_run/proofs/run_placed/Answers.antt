use Rattle.std.proofs.Common.{◌≡◌, rules}
use Rattle.std.specs.Prelude.{Err}
use Rattle.carol_reply.specs.Reply.{answer_of}
use Rattle.carol_words_run.specs.Run.{IsToldRun, SceneRuns}
use Rattle.carol_words.proofs.Opened.{ends_err, ends_none, fresh_said, not_fresh}
use Rattle.carol_words_run.proofs.Ran.{told_run}
use Rattle.carol_words_run.proofs.run_placed.Goals as goal

pub returns-in_err-fresh : goal.returns-in_err-fresh
returns-in_err-fresh g c =
    let halt = c.in_err-fresh.field-0.0 in
    let is : c.from_residual.result ≡ Err halt = search rules in
    ends_err (SceneRuns tt c.args.placed.program c.args.placed.scene) halt c.from_residual.result is
    (not_fresh (λ kept. IsToldRun kept c.args.placed.scene) c.args.placed.program halt c.in_err-fresh.ensures.told)

pub returns : goal.returns
returns g c =
    let fresh = c.in_ok-fresh.fresh in
    let made = c.in_ok-house.ensures in
    fresh_said IsToldRun c.args.placed.program c.args.placed.scene fresh (answer_of c.in_ok-told.field-0) c.in_ok-fresh.ensures.fresh
    (told_run fresh.kept fresh.scene c.in_ok-house.house (answer_of c.in_ok-told.field-0) made.kept made.scene c.in_ok-told.ensures)

pub returns-in_err-house : goal.returns-in_err-house
returns-in_err-house g c =
    ends_none (SceneRuns tt c.args.placed.program c.args.placed.scene) c.from_residual-in_err-house.result c.from_residual-in_err-house.ensures.1

pub returns-in_err-told : goal.returns-in_err-told
returns-in_err-told g c =
    ends_none (SceneRuns tt c.args.placed.program c.args.placed.scene) c.from_residual-in_err-told.result c.from_residual-in_err-told.ensures.1

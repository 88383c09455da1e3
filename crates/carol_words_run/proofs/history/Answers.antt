use Rattle.std.proofs.Common.{◌≡◌, rules}
use Rattle.std.specs.Prelude.{Err, codes}
use Rattle.carol_prepare.specs.Parts.{scene_alone}
use Rattle.carol_prepare.proofs.Told.{parts_before, parts_said}
use Rattle.carol_words_run.specs.Run.{RunSays, SceneRuns}
use Rattle.carol_words.proofs.Opened.{ends_err, ends_more}
use Rattle.carol_words_run.proofs.history.Goals as goal

pub returns-in_err-placed : goal.returns-in_err-placed
returns-in_err-placed g c =
    let halt = c.in_err-placed.field-0.0 in
    let is : c.from_residual.result ≡ Err halt = search rules in
    ends_err (RunSays c.args.bytes.now) halt c.from_residual.result is
    (parts_before (codes "run") scene_alone SceneRuns c.args.bytes.now halt c.in_err-placed.ensures.told)

pub returns : goal.returns
returns g c =
    let placed = c.in_ok-placed.placed in
    ends_more (SceneRuns tt placed.program placed.scene) (RunSays c.args.bytes.now)
    (λ answer h. parts_said (codes "run") scene_alone SceneRuns c.args.bytes.now tt placed.program placed.scene answer c.in_ok-placed.ensures.parts h)
    c.run_placed.result c.run_placed.ensures

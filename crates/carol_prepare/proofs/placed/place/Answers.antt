use Rattle.std.proofs.Common.{◌≡◌, rules}
use Rattle.std.specs.Prelude.{Err}
use Rattle.carol_prepare.specs.Scenes.{IsToldScene, PlacedSay}
use Rattle.carol_prepare.proofs.Told.{of_scene, told_err}
use Rattle.carol_prepare.proofs.placed.place.Goals as goal
use Rattle.carol_reply.specs.Reply.{HaltSays}
use Rattle.carol_syntax.specs.Files.{program_tree}

pub returns-in_err-scene-clause-told : goal.returns-in_err-scene-clause-told
returns-in_err-scene-clause-told c =
    let halt = c.in_err-scene.field-0.0 in
    let is : c.from_residual-in_err-scene.result ≡ Err halt = search rules in
    told_err (HaltSays (PlacedSay (λ _ _ _. ⊥) (program_tree c.args.file.now.program) c.args.written.now)) halt c.from_residual-in_err-scene.result is
    (of_scene (λ _ _ _. ⊥) (program_tree c.args.file.now.program) c.args.written.now c.in_ok-program.program halt c.in_ok-program.ensures.program c.in_err-scene.ensures.told)

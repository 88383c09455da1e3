-- What is left by a vault that was opened for copies.
use Rattle.std.proofs.Common.{◌≡◌, ◌⊎◌, ℕ, List, subst}
use Rattle.carol_program.specs.declared.scenes.Scene.{Scene}
use Rattle.carol_program.specs.Rules.{rules_in}
use Rattle.carol_reading.specs.Kept.{Kept}
use Rattle.carol_vault.specs.Opening.{StandsFor}

pub kept_copied : (kept same : Kept) (scene also : Scene) (after was seen : List ℕ) → same ≡ kept → also ≡ scene
    → (after ≡ was) ⊎ StandsFor (rules_in same.program) also seen after → (after ≡ was) ⊎ StandsFor (rules_in kept.program) scene seen after
kept_copied kept same scene also after was seen is is_scene h =
    subst (λ (k : Kept). (after ≡ was) ⊎ StandsFor (rules_in k.program) scene seen after) is
    (subst (λ (s : Scene). (after ≡ was) ⊎ StandsFor (rules_in same.program) s seen after) is_scene h)

-- The sessions of a scene, one after another.
use Rattle.std.proofs.Common.{◌≡◌, ℕ, ◌<◌, ◌≤◌, zero, suc, List, [], ◌∷◌, length, get_or, sym, ◌∙◌, ap, Fits, w32, arith}
use Rattle.std.specs.Prelude.{Some, None, slice_get}
use Rattle.std.proofs.lemmas.Option.{slice_get-get_or}
use Rattle.carol_program.specs.Rules.{Rules}
use Rattle.carol_program.specs.Scenes.{IsValidScene, commands_in}
use Rattle.carol_program.specs.declared.scenes.Scene.{Scene}
use Rattle.carol_program.specs.declared.scenes.SessionPlan.{SessionPlan}
use Rattle.carol_house.specs.House.{HasPlanned}

-- a session that was read
session_at : (plans : List SessionPlan) (i : ℕ) (plan : SessionPlan) → i < length plans → plan ≡ get_or plans i plan → slice_get plans i ≡ Some plan
session_at plans i plan inside read = slice_get-get_or plans i plan inside ∙ ap Some (sym read)

-- a session has no more commands than all have
commands_few : (plans : List SessionPlan) (i : ℕ) (plan : SessionPlan) → slice_get plans i ≡ Some plan → length plan.commands ≤ commands_in plans
commands_few [] i plan at = absurd (nothing at)
  where
    nothing : None ≡ Some plan → ⊥
    nothing e = cc
commands_few (p ∷ plans) zero plan at =
    let same : p ≡ plan = cc
    in rw (← same) (omega arith)
commands_few (p ∷ plans) (suc i) plan at = omega (arith, commands_few plans i plan at)

-- so that their number fits
pub commands_low : (p : Rules) (scene : Scene) (i : ℕ) (plan : SessionPlan) → IsValidScene p scene → i < length scene.sessions → plan ≡ get_or scene.sessions i plan → Fits w32 (length plan.commands)
commands_low p scene i plan valid inside read =
    let few = commands_few scene.sessions i plan (session_at scene.sessions i plan inside read)
    in omega (arith, few, valid.few_commands)

-- and they are planned
pub planned : (scene : Scene) (i : ℕ) (plan : SessionPlan) → i < length scene.sessions → plan ≡ get_or scene.sessions i plan → (command : ℕ) → command < length plan.commands → HasPlanned scene i command
planned scene i plan inside read command below = rw (session_at scene.sessions i plan inside read) below

-- That what `run` means is settled, and what is told of a house that was run.
use Rattle.std.proofs.Common.{◌≡◌, List, subst}
use Rattle.std.specs.Prelude.{codes}
use Rattle.carol_event.specs.declared.event.Event.{Event}
use Rattle.carol_house.specs.House.{House}
use Rattle.carol_prepare.specs.Parts.{scene_alone}
use Rattle.carol_prepare.proofs.Refusals.{IsOfAccepted}
use Rattle.carol_prepare.proofs.Settled.{OneOutcome, parts_agree, parts_own, verdict_agree, verdict_own}
use Rattle.carol_program.specs.declared.scenes.Scene.{Scene}
use Rattle.carol_reading.specs.Kept.{Kept}
use Rattle.carol_reply.specs.declared.status.Status.{Status}
use Rattle.carol_reply.specs.declared.status.Status.TheVariants as status
use Rattle.carol_reply.specs.Meaning.{FixesStatus, FixesText}
use Rattle.carol_reply.specs.Texts.{Answer}
use Rattle.carol_reply.proofs.Agreeing.{Agrees, IsSettled}
use Rattle.carol_words_run.specs.Run.{Ended, IsToldRun, SceneRuns, run_meaning}

ended_accepted : (scene : Scene) (past : List Event) (ended : Status) → Ended scene past ended → IsOfAccepted ended
ended_accepted scene past status.Ok h = tt
ended_accepted scene past status.Full h = tt
ended_accepted scene past ended h = absurd h

-- no history fixes the status, nor the text
ended_status : (scene : Scene) (past : List Event) (ended : Status) → Ended scene past ended → FixesStatus ⊥ ended → ⊥
ended_status scene past status.Ok h f = f
ended_status scene past status.Full h f = f
ended_status scene past ended h f = absurd h

ended_text : (scene : Scene) (past : List Event) (ended : Status) → Ended scene past ended → FixesText ⊥ ended → ⊥
ended_text scene past status.Ok h f = f
ended_text scene past status.Full h f = f
ended_text scene past ended h f = absurd h

ran_own : (scene : Scene) (kept : Kept) (answer : Answer) → IsToldRun kept scene answer → IsOfAccepted answer.0
ran_own scene kept answer h = ended_accepted scene h.past answer.0 h.ended

ran_agree : (scene : Scene) (kept other : Kept) → Agrees ⊥ (IsToldRun kept scene) (IsToldRun other scene)
ran_agree scene kept other a b h g = record {
  status = λ f k. absurd (ended_status scene h.past a.0 h.ended f);
  text = λ f s. absurd (ended_text scene g.past b.0 g.ended f);
}

pub runs : OneOutcome → IsSettled run_meaning
runs outcome = record {
  own = parts_own (codes "run") scene_alone SceneRuns
      (λ none program scene. verdict_own (λ kept. IsToldRun kept scene) (ran_own scene) program);
  agree = parts_agree outcome ⊥ (codes "run") scene_alone SceneRuns
      (λ none one two alike scene valid. verdict_agree ⊥ (λ kept. IsToldRun kept scene) (ran_own scene) one two alike
      (λ kept other is also. ran_agree scene kept other));
}

-- what the house of a run tells
pub told_run : (kept : Kept) (scene : Scene) (house : House) (answer : Answer) → house.kept ≡ kept → house.scene ≡ scene → IsToldRun house.kept house.scene answer
    → IsToldRun kept scene answer
told_run kept scene house answer same_kept same_scene h = subst (λ k. IsToldRun k scene answer) same_kept (subst (λ s. IsToldRun house.kept s answer) same_scene h)

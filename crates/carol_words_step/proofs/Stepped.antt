-- That what `step` means is settled, and what is told of a house that was played.
use Rattle.std.proofs.Common.{◌≡◌, List, [], sym, ◌∙◌, ap, subst}
use Rattle.std.specs.Prelude.{None, Some, Option, codes}
use Rattle.carol_event.specs.declared.event.Event.{Event}
use Rattle.carol_history.specs.declared.script.BadStatement.{BadStatement}
use Rattle.carol_history.specs.declared.script.Statement.{Statement}
use Rattle.carol_history.specs.Laws.{ScriptIsSingle}
use Rattle.carol_history.specs.Scripts.{ComesTo, Scripted}
use Rattle.carol_house.specs.House.{House, IsHistory, UpholdsAll, rules_of}
use Rattle.carol_prepare.specs.Parts.{with_script}
use Rattle.carol_prepare.proofs.Refusals.{IsOfAccepted}
use Rattle.carol_prepare.proofs.Settled.{AreAlike, OneOutcome, parts_agree, parts_own, verdict_agree, verdict_own}
use Rattle.carol_program.specs.declared.program.Program.{Program}
use Rattle.carol_program.specs.declared.scenes.Scene.{Scene}
use Rattle.carol_program.specs.Rules.{Rules, rules_in}
use Rattle.carol_program.specs.Scenes.{IsValidScene}
use Rattle.carol_reading.specs.Kept.{Kept}
use Rattle.carol_reply.specs.Texts.{Answer}
use Rattle.carol_reply.proofs.Agreeing.{Agrees, IsSettled, agree_same}
use Rattle.carol_report.specs.Plays.{Plays}
use Rattle.carol_words.proofs.Alike.{same_rules}
use Rattle.carol_words_step.specs.Step.{IsPlayed, ScriptSays, script_answer, step_meaning}

script_accepted : (p : Rules) (scene : Scene) (script : Scripted) → IsOfAccepted (script_answer p scene script).0
script_accepted p scene script = elim script.bad as (λ bad. IsOfAccepted (script_answer p scene (record script { bad = bad })).0) [
  | Some bad ↦ tt
  | None ↦ tt
]

played_own : (statements : List Statement) (scene : Scene) (kept : Kept) (answer : Answer) → IsPlayed statements kept scene answer → IsOfAccepted answer.0
played_own statements scene kept answer h = subst (λ a. IsOfAccepted a.0) (sym h.told) (script_accepted (rules_in kept.program) scene h.script)

-- a script comes to one history in each valid scene
abbrev pub Scripts : Type 0
Scripts = (p : Rules) (scene : Scene) → IsValidScene p scene → ScriptIsSingle p scene

played_agree : (statements : List Statement) (one two : Kept) (scene : Scene) → rules_in one.program ≡ rules_in two.program
    → ScriptIsSingle (rules_in one.program) scene → Agrees (Unit {0}) (IsPlayed statements one scene) (IsPlayed statements two scene)
played_agree statements one two scene ruled single other answer h g =
    let comes : ComesTo (rules_in one.program) scene 1 statements [] g.script
    = subst (λ (p : Rules). ComesTo p scene 1 statements [] g.script) (sym ruled) g.comes in
    let same : h.script ≡ g.script = single 1 statements [] tt h.script g.script h.comes comes in
    agree_same (Unit {0}) other answer
    (h.told ∙ (ap (script_answer (rules_in one.program) scene) same
    ∙ (ap (λ (p : Rules). script_answer p scene g.script) ruled ∙ sym g.told)))

scripts_agree : Scripts → (statements : List Statement) (one two : Program) → AreAlike one two → (scene : Scene) → IsValidScene (rules_in one) scene
    → Agrees (Unit {0}) (ScriptSays statements one scene) (ScriptSays statements two scene)
scripts_agree once statements one two alike scene valid =
    verdict_agree (Unit {0}) (λ kept. IsPlayed statements kept scene) (played_own statements scene) one two alike
    (λ kept other is also. played_agree statements kept other scene (same_rules one two alike kept other is also)
    (once (rules_in kept.program) scene (subst (λ p. IsValidScene p scene) (sym (ap rules_in is.same)) valid)))

pub steps : OneOutcome → Scripts → IsSettled step_meaning
steps outcome once = record {
  own = parts_own (codes "step") with_script ScriptSays
      (λ statements program scene. verdict_own (λ kept. IsPlayed statements kept scene) (played_own statements scene) program);
  agree = parts_agree outcome (Unit {0}) (codes "step") with_script ScriptSays (scripts_agree once);
}

-- ---- what is told

-- what the house tells in which the statements were carried out
pub told_played : (statements : List Statement) (old new : House) (bad : Option BadStatement) (answer : Answer) → old.history ≡ [] → Plays old statements new bad
    → IsHistory new → UpholdsAll new → answer ≡ script_answer (rules_of new) new.scene (record { history = new.history; bad = bad }) → IsPlayed statements old.kept old.scene answer
told_played statements old new bad answer empty h is upheld told =
    subst (λ (k : Kept). IsPlayed statements k old.scene answer) h.over.kept (subst (λ (s : Scene). IsPlayed statements new.kept s answer) h.over.scene (record {
      script = script;
      comes = comes;
      run = is.run;
      few = is.few;
      upheld = upheld;
      told = told;
    }))
  where
    script : Scripted
    script = record { history = new.history; bad = bad }

    comes : ComesTo (rules_of new) new.scene 1 statements [] script
    comes = subst (λ (k : Kept). ComesTo (rules_in k.program) new.scene 1 statements [] script) (sym h.over.kept)
        (subst (λ (s : Scene). ComesTo (rules_of old) s 1 statements [] script) (sym h.over.scene)
        (subst (λ (past : List Event). ComesTo (rules_of old) old.scene 1 statements past script) empty h.script))

-- That what `keep K` means is settled.
use Rattle.std.proofs.Common.{List, ℕ, [], sym, ◌≡◌, ◌∙◌, ap, subst}
use Rattle.std.specs.Prelude.{None, Some, codes}
use Rattle.carol_accept.specs.Refusals.{IsKeptAs}
use Rattle.carol_history.specs.declared.script.Statement.{Statement}
use Rattle.carol_history.specs.Laws.{ScriptIsSingle}
use Rattle.carol_history.specs.Scripts.{ComesTo, Scripted}
use Rattle.carol_keep.specs.Keep.{IsKept, ScriptKeeps, keep_answer, keep_meaning}
use Rattle.carol_prepare.specs.Parts.{with_script}
use Rattle.carol_prepare.proofs.Refusals.{IsOfAccepted}
use Rattle.carol_prepare.proofs.Settled.{AreAlike, OneOutcome, parts_agree, parts_own, verdict_agree, verdict_own}
use Rattle.carol_program.specs.declared.program.Program.{Program}
use Rattle.carol_program.specs.declared.scenes.Scene.{Scene}
use Rattle.carol_program.specs.Rules.{Rules, rules_in}
use Rattle.carol_program.specs.Scenes.{IsValidScene}
use Rattle.carol_reading.specs.Kept.{Kept}
use Rattle.carol_reply.specs.Texts.{Answer}
use Rattle.carol_reply.proofs.Agreeing.{Agrees, IsSettled, agree_same}

answer_accepted : (stop : ℕ) (p : Rules) (scene : Scene) (script : Scripted) → IsOfAccepted (keep_answer stop p scene script).0
answer_accepted stop p scene script = elim script.bad as (λ bad. IsOfAccepted (keep_answer stop p scene (record script { bad = bad })).0) [
  | Some bad ↦ tt
  | None ↦ tt
]

kept_own : (stop : ℕ) (statements : List Statement) (scene : Scene) (kept : Kept) (answer : Answer) → IsKept stop statements kept scene answer → IsOfAccepted answer.0
kept_own stop statements scene kept answer h = subst (λ a. IsOfAccepted a.0) (sym h.told) (answer_accepted stop (rules_in kept.program) scene h.script)

-- a script comes to one history in each valid scene
abbrev pub Scripts : Type 0
Scripts = (p : Rules) (scene : Scene) → IsValidScene p scene → ScriptIsSingle p scene

kept_agree : (stop : ℕ) (statements : List Statement) (one two : Kept) (scene : Scene) → rules_in one.program ≡ rules_in two.program
    → ScriptIsSingle (rules_in one.program) scene → Agrees (Unit {0}) (IsKept stop statements one scene) (IsKept stop statements two scene)
kept_agree stop statements one two scene ruled single other answer h g =
    let comes : ComesTo (rules_in one.program) scene 1 statements [] g.script
    = subst (λ (p : Rules). ComesTo p scene 1 statements [] g.script) (sym ruled) g.comes in
    let same : h.script ≡ g.script = single 1 statements [] tt h.script g.script h.comes comes in
    agree_same (Unit {0}) other answer
    (h.told ∙ (ap (keep_answer stop (rules_in one.program) scene) same
    ∙ (ap (λ (p : Rules). keep_answer stop p scene g.script) ruled ∙ sym g.told)))

-- programs that are kept of such that are alike have the same rules
same_rules : (one two : Program) → AreAlike one two → (kept other : Kept) → IsKeptAs one kept → IsKeptAs two other → rules_in kept.program ≡ rules_in other.program
same_rules one two alike kept other is also = ap rules_in is.same ∙ (alike.rules ∙ sym (ap rules_in also.same))

scripts_agree : Scripts → (stop : ℕ) (statements : List Statement) (one two : Program) → AreAlike one two → (scene : Scene) → IsValidScene (rules_in one) scene
    → Agrees (Unit {0}) (ScriptKeeps stop statements one scene) (ScriptKeeps stop statements two scene)
scripts_agree once stop statements one two alike scene valid =
    verdict_agree (Unit {0}) (λ kept. IsKept stop statements kept scene) (kept_own stop statements scene) one two alike
    (λ kept other is also. kept_agree stop statements kept other scene (same_rules one two alike kept other is also)
    (once (rules_in kept.program) scene (subst (λ p. IsValidScene p scene) (sym (ap rules_in is.same)) valid)))

pub keeps : OneOutcome → Scripts → (stop : ℕ) → IsSettled (keep_meaning stop)
keeps outcome once stop = record {
  own = parts_own (codes "keep") with_script (ScriptKeeps stop)
      (λ statements program scene. verdict_own (λ kept. IsKept stop statements kept scene) (kept_own stop statements scene) program);
  agree = parts_agree outcome (Unit {0}) (codes "keep") with_script (ScriptKeeps stop) (scripts_agree once stop);
}

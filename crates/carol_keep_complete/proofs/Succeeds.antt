-- That `keep` is done where nothing stands against its input.
use Rattle.std.proofs.Common.{◌≡◌, List, [], ℕ, ◌∙◌, ap, subst}
use Rattle.std.specs.Prelude.{None, codes}
use Rattle.carol_complete.specs.Inputs.{GivesAll, scene_in}
use Rattle.carol_complete.proofs.Passing.{input_said, scene_valid, verdict_said}
use Rattle.carol_complete.proofs.Succeeding.{OneScript}
use Rattle.carol_history.specs.declared.script.Statement.{Statement}
use Rattle.carol_history.specs.Laws.{ScriptIsSingle}
use Rattle.carol_history.specs.Scripts.{ComesTo, Scripted}
use Rattle.carol_keep.specs.Keep.{IsKept, ScriptKeeps, keep_answer}
use Rattle.carol_keep_complete.specs.Law.{KeepsSucceed}
use Rattle.carol_meaning.specs.Programs.{rules_of}
use Rattle.carol_prepare.specs.Parts.{with_script}
use Rattle.carol_prepare.proofs.Settled.{OneOutcome}
use Rattle.carol_program.specs.declared.scenes.Scene.{Scene}
use Rattle.carol_program.specs.Rules.{Rules, rules_in}
use Rattle.carol_reading.specs.Kept.{Kept}
use Rattle.carol_reply.specs.declared.status.Status.TheVariants as status
use Rattle.carol_reply.specs.Texts.{Answer}

-- where each statement gives an event, what is read back is reported
kept_whole : (stop : ℕ) (p : Rules) (scene : Scene) (statements : List Statement) (kept : Kept) (answer : Answer) → rules_in kept.program ≡ p
    → ScriptIsSingle p scene → GivesAll p scene statements → IsKept stop statements kept scene answer → answer.0 ≡ status.Ok
kept_whole stop p scene statements kept answer same single all h =
    let comes : ComesTo p scene 1 statements [] h.script = subst (λ (r : Rules). ComesTo r scene 1 statements [] h.script) same h.comes in
    let whole : Scripted = record { history = all.0; bad = None } in
    let is : h.script ≡ whole = single 1 statements [] tt h.script whole comes all.1 in
    ap (λ (a : Answer). a.0) h.told ∙ ap (λ (s : Scripted). (keep_answer stop (rules_in kept.program) scene s).0) is

pub keeps_succeed : OneOutcome → OneScript → KeepsSucceed
keeps_succeed once single stop bytes answer input says =
    let p : Rules = rules_of input.file.program in
    let scene : Scene = scene_in input.file.program input.written in
    let h = input_said once (codes "keep") with_script GivesAll (ScriptKeeps stop) bytes answer input says in
    let kept = verdict_said (λ kept. IsKept stop input.part kept scene) p h.0 answer input.passing.accepted input.passing.none_open h.1.rules h.2 in
    kept_whole stop p scene input.part kept.0 answer kept.1 (single p scene (scene_valid input.file.program input.written input.placed)) input.holds kept.2

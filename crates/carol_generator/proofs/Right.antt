-- Nothing is wrong with the generated file, wherever its parts stand.
use Rattle.std.proofs.Common.{◌≡◌, ℕ, [], Option, refl, ◌∙◌, ap}
use Rattle.std.specs.Prelude.{Some, None, option_map}
use Rattle.carol_syntax.specs.declared.scenes.SceneDecl.{SceneDecl}
use Rattle.carol_syntax.specs.Files.{ProgramTree, FileTree}
use Rattle.carol_syntax.specs.Unplaced.{unplaced_scene}
use Rattle.carol_meaning.specs.Programs.{program_faults, rules_of, names_of}
use Rattle.carol_generator.specs.Generated.{bank, scene_drawn}
use Rattle.carol_generator.specs.Laws.{GeneratedIsFaultless}
use Rattle.carol_generator.proofs.Places.{program, program_placed}
use Rattle.carol_generator.proofs.Commands.{scene_taken}

rules_placed : (t : ProgramTree) → rules_of (program t bank) ≡ rules_of bank
rules_placed t = refl

names_placed : (t : ProgramTree) → names_of (program t bank) ≡ names_of bank
names_placed t = refl

bank_right : (t : ProgramTree) → program_faults (program t bank) ≡ []
bank_right t = refl

-- a scene that is this one without its places
with_scene : (n : ℕ) (o : Option SceneDecl) → option_map unplaced_scene o ≡ Some (unplaced_scene (scene_drawn n)) → (s : SceneDecl) × (o ≡ Some s) × (unplaced_scene s ≡ unplaced_scene (scene_drawn n))
with_scene n None e = absurd cc
with_scene n (Some s) e = (s, refl, cc)

without_tail : (o : Option ℕ) → option_map {U = ℕ} (λ _. 0) o ≡ None → o ≡ None
without_tail None e = refl
without_tail (Some n) e = absurd cc

pub file_faultless : GeneratedIsFaultless
file_faultless n few g e =
    let same : g.program ≡ program g.program bank = program_placed g.program bank (ap (λ (u : FileTree). u.program) e) in
    let scene = with_scene n g.scene (ap (λ (u : FileTree). u.scene) e) in
    let rules : rules_of g.program ≡ rules_of bank = ap rules_of same ∙ rules_placed g.program in
    let names : names_of g.program ≡ names_of bank = ap names_of same ∙ names_placed g.program in
    record {
      named = ap program_faults same ∙ bank_right g.program;
      rules = rules;
      scene = scene.0;
      stands = scene.1;
      placed = rw (rules, names) (scene_taken n scene.0 few scene.2);
      no_script = ap (λ (u : FileTree). u.script) e;
      no_tail = without_tail g.tail (ap (λ (u : FileTree). u.tail) e);
    }

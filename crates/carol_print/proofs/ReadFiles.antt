-- Files.
use Rattle.std.proofs.Common.{◌≡◌, ℕ, List, [], ◌∷◌, ◌++◌, Option, refl, sym, ◌∙◌, ap, subst}
use Rattle.std.proofs.lemmas.List.{append-nil}
use Rattle.std.specs.Prelude.{Some, None, IfSome, IsSome, option_map}
use Rattle.std.specs.List.{AllByRecursion}
use Rattle.carol_syntax.specs.declared.scenes.SceneDecl.{SceneDecl}
use Rattle.carol_syntax.specs.declared.scenes.ScriptLine.{ScriptLine}
use Rattle.carol_syntax.specs.Files.{ProgramTree, FileTree}
use Rattle.carol_syntax.specs.Unplaced.{unplaced_program, unplaced_scene, unplaced}
use Rattle.carol_syntax.specs.Shape.{IsScene, IsLine, IsFile}
use Rattle.carol_syntax.specs.declared.lexeme.Lexeme.{Lexeme}
use Rattle.carol_grammar.specs.Rules.{Sequel, Scripted, sequel, some_sequel, staged, some_stage, file, with_sequel, file_of, IsFileOf}
use Rattle.carol_print.specs.Pieces.{Piece, tokens_in, Spells}
use Rattle.carol_print.specs.Canonical as text
use Rattle.carol_print.specs.Spelled.{without_tail, IsReadAs}
use Rattle.carol_print.proofs.Reached.{Same, Reaches, Reached, onto, onto-append, onto_none, reach_along, reach_gives, reach_both, reach_left, reach_begins, reach_some, reach_none}
use Rattle.carol_print.proofs.LaidPrograms.{reach_program}
use Rattle.carol_print.proofs.LaidScenes.{reach_scene, reach_script}

-- what stands behind a program, if the tree of the file is to have this scene and script
abbrev is_stage : Option SceneDecl → Option (List ScriptLine) → Option (SceneDecl × Option Sequel) → Type 0
is_stage scene script o =
    (p q : ProgramTree) → unplaced_program q ≡ unplaced_program p → (tail : ℕ)
    → unplaced (file_of tail q o) ≡ unplaced (record { program = p; scene = scene; script = script; tail = None })

scripted_as : (script : Option (List ScriptLine)) (s t : SceneDecl) (p q : ProgramTree) (tail : ℕ) → unplaced_scene t ≡ unplaced_scene s
    → unplaced_program q ≡ unplaced_program p
    → unplaced (with_sequel tail q t (option_map Scripted script))
    ≡ unplaced (record { program = p; scene = Some s; script = script; tail = None })
scripted_as None s t p q tail e i = cc
scripted_as (Some xs) s t p q tail e i = cc

onto_parts : (f : FileTree) (us : List Piece)
    → onto (text.canonical f) us ≡ onto (text.program f.program)
    (onto (text.part_of text.scene f.scene) (onto (text.part_of text.script f.script) us))
onto_parts f us =
    onto-append (text.program f.program) _ us ∙ ap (onto (text.program f.program)) (onto-append (text.part_of text.scene f.scene) _ us)

module _ {bytes : List ℕ} where
  reach_sequel : (script : Option (List ScriptLine)) {us : List Piece} → IfSome script (AllByRecursion IsLine)
      → Reaches bytes some_sequel (onto (text.part_of text.script script) us) us (λ o. o ≡ option_map Scripted script)
  unfolding some_sequel sequel
  reach_sequel None h = reach_none refl
  reach_sequel (Some xs) h =
      reach_some (reach_begins (reach_left (reach_begins (reach_gives {Q = λ y. y ≡ Scripted xs} (reach_script xs h) (λ y e. cc)))))
      (λ y e. cc)

  reach_stage : (scene : Option SceneDecl) (script : Option (List ScriptLine)) {us : List Piece} → (IsSome script → IsSome scene)
      → IfSome scene IsScene → IfSome script (AllByRecursion IsLine)
      → Reaches bytes (some_stage bytes) (onto (text.part_of text.scene scene) (onto (text.part_of text.script script) us)) us
      (is_stage scene script)
  unfolding some_stage staged
  reach_stage None None f h g = reach_none (λ p q e tail. cc)
  reach_stage None (Some xs) f h g = let some_scene : IsSome {T = SceneDecl} None = f refl in absurd cc
  reach_stage (Some s) script f h g =
      reach_some (reach_begins (reach_both (reach_scene s h) (reach_sequel script g)))
      (λ y e p q i tail. ap (λ o. unplaced (with_sequel tail q y.0 o)) e.1 ∙ scripted_as script s y.0 p q tail e.0 i)

  reach_file : (f : FileTree) (tail : ℕ) {us : List Piece} → IsFile f
      → Reaches bytes (file bytes tail) (onto (text.canonical f) us) us (Same unplaced (without_tail f))
  unfolding file
  reach_file f tail h =
      reach_along (onto_parts f _) (reach_gives (reach_both (reach_program f.program h.program)
      (reach_stage f.scene f.script (λ i. (h.parts.0 i).0) h.scene h.script)) (λ y e. e.1 f.program y.0 e.0 tail))

-- with nothing left the tokens are the whole sentence
whole : (bytes : List ℕ) (tail : ℕ) (f : FileTree) (list : List Lexeme)
    → Reached bytes (file bytes tail) [] (Same unplaced (without_tail f)) list → IsReadAs bytes tail list f
whole bytes tail f list x = (x.value, subst (λ z. IsFileOf bytes tail z x.value) (sym all) x.says, x.fits)
  where
    none_left : (back : List Lexeme) → Spells bytes back [] → back ≡ []
    none_left [] h = refl
    none_left (l ∷ ls) h = absurd h

    all : list ≡ x.front
    all = x.split ∙ ap (λ z. x.front ++ z) (none_left x.back x.left) ∙ append-nil x.front

pub canonical_is_read : (f : FileTree) → IsFile f → (bytes : List ℕ) (tail : ℕ) (list : List Lexeme)
    → Spells bytes list (tokens_in (text.canonical f)) → IsReadAs bytes tail list f
canonical_is_read f h bytes tail list s =
    whole bytes tail f list ((reach_file f tail h).at list (subst (λ z. Spells bytes list z) (sym (onto_none (text.canonical f))) s))

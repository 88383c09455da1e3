-- The text of the parts of a file, part by part; `out` stands before it.
use Rattle.std.proofs.Common.{◌≡◌, ℕ, map, List, ◌++◌, append_assoc}
use Rattle.std.specs.Prelude.{codes}
use Rattle.std.specs.Fmt.{decimal}
use Rattle.std.proofs.lemmas.List.{append-nil}
use Rattle.carol_syntax.specs.declared.scenes.CommandDecl.{CommandDecl}
use Rattle.carol_syntax.specs.declared.scenes.SessionDecl.{SessionDecl}
use Rattle.carol_syntax.specs.declared.scenes.SceneDecl.{SceneDecl}
use Rattle.carol_syntax.specs.declared.scenes.ScriptLine.{ScriptLine}
use Rattle.carol_syntax.specs.Files.{NamedFormula, OpTree, ProgramTree, FileTree}
use Rattle.carol_print.specs.Pieces.{text_of}
use Rattle.carol_print.specs.Canonical.{only_name, with_commas, concat, formula, cell, inside, int, guard, param, op, program, times, command, session, scene, line, script, part_of, canonical}
use Rattle.carol_print.proofs.LaidLists.{text_of_both}

pub guard_text : (g : NamedFormula) (out : List ℕ) → (out ++ codes "guard " ++ text_of (only_name g.name) ++ codes ": " ++ text_of (formula g.formula)) ++ codes ";\n" ≡ out ++ text_of (guard g)
guard_text g out = simp (append_assoc, append-nil, text_of_both)

pub op_text : (o : OpTree) (out : List ℕ) → (out ++ codes "op " ++ text_of (only_name o.name) ++ codes "(" ++ text_of (with_commas (map param o.params)) ++ codes ") gives " ++ text_of (formula o.gives) ++ codes " {\n" ++ text_of (inside o.body)) ++ codes "}\n" ≡ out ++ text_of (op o)
op_text o out = simp (append_assoc, append-nil, text_of_both)

pub program_text : (p : ProgramTree) (out : List ℕ) → (out ++ codes "program\n" ++ text_of (concat (map cell p.cells)) ++ codes "invariant " ++ text_of (formula p.invariant) ++ codes ";\n" ++ text_of (concat (map guard p.guards)) ++ text_of (concat (map op p.ops))) ++ codes "end\n" ≡ out ++ text_of (program p)
program_text p out = simp (append_assoc, text_of_both)

pub command_text : (c : CommandDecl) (out : List ℕ) → (out ++ text_of (only_name c.name) ++ codes "(" ++ text_of (with_commas (map int c.args)) ++ codes ")" ++ text_of (times c.times.value)) ++ codes ";\n" ≡ out ++ text_of (command c)
command_text c out = simp (append_assoc, append-nil, text_of_both)

pub session_text : (s : SessionDecl) (out : List ℕ) → (out ++ codes "session at " ++ decimal s.replica.value ++ codes " {\n" ++ text_of (concat (map command s.commands))) ++ codes "}\n" ≡ out ++ text_of (session s)
session_text s out = simp (append_assoc, text_of_both)

pub scene_text : (s : SceneDecl) (out : List ℕ) →
    (out ++ codes "scene\n" ++ (codes "replicas " ++ (decimal s.replicas.value ++ codes ";\n")) ++ (codes "tries " ++ (decimal s.tries.value ++ codes ";\n"))
    ++ (codes "workers " ++ (decimal s.workers.value ++ codes ";\n")) ++ (codes "gossipers " ++ (decimal s.gossipers.value ++ codes ";\n"))
    ++ text_of (concat (map session s.sessions))) ++ codes "end\n" ≡ out ++ text_of (scene s)
scene_text s out = simp (append_assoc, text_of_both)

pub script_text : (ls : List ScriptLine) (out : List ℕ) → (out ++ codes "script\n" ++ text_of (concat (map line ls))) ++ codes "end\n" ≡ out ++ text_of (script ls)
script_text ls out = simp (append_assoc, text_of_both)

pub file_text : (f : FileTree) (out : List ℕ) → (out ++ text_of (program f.program) ++ text_of (part_of scene f.scene)) ++ text_of (part_of script f.script) ≡ out ++ text_of (canonical f)
file_text f out = simp (append_assoc, text_of_both)

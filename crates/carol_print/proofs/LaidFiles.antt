-- The canonical text of a file is laid out.
use Rattle.std.proofs.Common.{ℕ, Bool, true, false, List, [], ◌∷◌, refl, map}
use Rattle.std.specs.Prelude.{Option, Some, None, IfSome, ◌==◌, if◌then◌else◌}
use Rattle.std.specs.List.{AllByRecursion}
use Rattle.carol_syntax.specs.declared.scenes.CommandDecl.{CommandDecl}
use Rattle.carol_syntax.specs.declared.scenes.SessionDecl.{SessionDecl}
use Rattle.carol_syntax.specs.declared.scenes.SceneDecl.{SceneDecl}
use Rattle.carol_syntax.specs.declared.scenes.ScriptLine.{ScriptLine}
use Rattle.carol_syntax.specs.declared.scenes.ScriptLine.TheVariants as line_of
use Rattle.carol_syntax.specs.Files.{NamedFormula, OpTree, ProgramTree, FileTree}
use Rattle.carol_syntax.specs.Shape.{IsCell, IsWhole, IsLiteral, IsNamed, IsOp, IsProgram, IsCommand, IsSession, IsScene, IsLine, IsFile}
use Rattle.carol_syntax.specs.declared.kind.Kind.TheVariants as k
use Rattle.carol_print.specs.Pieces.{Space, Break, AreLaidOut, fixed}
use Rattle.carol_print.specs.Canonical.{Pieces, semicolon, int, number, with_commas, concat, formula, cell, inside, guard, param, op, end, program, times, command, session, scene, line, script, part_of, canonical}
use Rattle.carol_print.proofs.Standing.{Fits, Stands, any_kind, soft_both, stands_both, named, with_commas_fit, rows_stand}
use Rattle.carol_print.proofs.LaidTerms.{number_fits, int_fits}
use Rattle.carol_print.proofs.LaidFormulas.{formula_fits}
use Rattle.carol_print.proofs.LaidCells.{cell_stands}
use Rattle.carol_print.proofs.LaidBodies.{line_stands, inside_stands}
use Rattle.carol_print.proofs.Fixed.{fixed_spelled}
use Rattle.carol_print.proofs.Numbers.{number_spelled}

guard_stands : (g : NamedFormula) → IsNamed g → Stands (guard g)
guard_stands g h bytes =
    (fixed_spelled k.Guard refl, refl, refl, (named g.name h.0, refl, refl, (fixed_spelled k.Colon refl, refl, refl, line_stands (formula g.formula) (formula_fits g.formula h.1) bytes)))

param_fits : (p : NamedFormula) → IsNamed p → Fits (param p)
param_fits p h bytes soft = (named p.name h.0, refl, refl, (fixed_spelled k.Colon refl, refl, refl, formula_fits p.formula h.1 bytes soft))

op_stands : (o : OpTree) → IsOp o → Stands (op o)
op_stands o h bytes = (
  fixed_spelled k.Op refl,
  refl,
  refl,
  (
    named o.name h.0,
    refl,
    refl,
    (
      fixed_spelled k.Opening refl,
      refl,
      any_kind k.Opening (λ _. refl) _,
      soft_both (with_commas (map param o.params)) _ bytes (with_commas_fit IsNamed param param_fits o.params h.1) refl (
        fixed_spelled k.Closing refl,
        refl,
        refl,
        (
          fixed_spelled k.Gives refl,
          refl,
          refl,
          soft_both (formula o.gives) _ bytes (formula_fits o.gives h.2) refl (
            fixed_spelled k.OpeningBrace refl,
            refl,
            refl,
            stands_both (inside o.body) _ bytes (inside_stands o.body h.3) (fixed_spelled k.ClosingBrace refl, refl, refl, tt),
          ),
        ),
      ),
    ),
  ),
)

end_stands : Stands end
end_stands bytes = (fixed_spelled k.End refl, refl, refl, tt)

program_stands : (p : ProgramTree) → IsProgram p → Stands (program p)
program_stands p h bytes = (
  fixed_spelled k.Program refl,
  refl,
  refl,
  stands_both (concat (map cell p.cells)) _ bytes (rows_stand IsCell cell (cell_stands) p.cells h.cells) (
    fixed_spelled k.Invariant refl,
    refl,
    refl,
    soft_both (formula p.invariant) _ bytes (formula_fits p.invariant h.invariant) refl (
      fixed_spelled k.Semicolon refl,
      refl,
      refl,
      stands_both (concat (map guard p.guards)) _ bytes (rows_stand IsNamed guard guard_stands p.guards h.guards)
          (stands_both (concat (map op p.ops)) _ bytes (rows_stand IsOp op op_stands p.ops h.ops) (end_stands bytes)),
    ),
  ),
)

times_laid : (b : Bool) (n : ℕ) → IsLiteral n → Fits (if b then [] else (Space ∷ fixed k.Times ∷ Space ∷ number n ∷ []))
times_laid true n h bytes soft = tt
times_laid false n h bytes soft = (fixed_spelled k.Times refl, refl, refl, number_fits n h bytes soft)

command_stands : (c : CommandDecl) → IsCommand c → Stands (command c)
command_stands c h bytes = (
  named c.name h.0,
  refl,
  refl,
  (
    fixed_spelled k.Opening refl,
    refl,
    any_kind k.Opening (λ _. refl) _,
    soft_both (with_commas (map int c.args)) _ bytes (with_commas_fit IsWhole int (int_fits) c.args h.1) refl (
      fixed_spelled k.Closing refl,
      refl,
      any_kind k.Closing (λ _. refl) _,
      line_stands (times c.times.value) (times_laid (c.times.value == 1) c.times.value h.2) bytes,
    ),
  ),
)

session_stands : (s : SessionDecl) → IsSession s → Stands (session s)
session_stands s h bytes = (
  fixed_spelled k.Session refl,
  refl,
  refl,
  (
    fixed_spelled k.At refl,
    refl,
    refl,
    (
      number_spelled s.replica.value h.0,
      refl,
      refl,
      (
        fixed_spelled k.OpeningBrace refl,
        refl,
        refl,
        stands_both (concat (map command s.commands)) _ bytes (rows_stand IsCommand command command_stands s.commands h.1)
            (fixed_spelled k.ClosingBrace refl, refl, refl, tt),
      ),
    ),
  ),
)

number_line : (n : ℕ) → IsLiteral n → Stands (number n ∷ semicolon ∷ Break ∷ [])
number_line n h bytes = (number_spelled n h, refl, refl, (fixed_spelled k.Semicolon refl, refl, refl, tt))

scene_stands : (s : SceneDecl) → IsScene s → Stands (scene s)
scene_stands s h bytes = (
  fixed_spelled k.Scene refl,
  refl,
  refl,
  (
    fixed_spelled k.Replicas refl,
    refl,
    refl,
    (
      number_spelled s.replicas.value h.replicas,
      refl,
      refl,
      (
        fixed_spelled k.Semicolon refl,
        refl,
        refl,
        (
          fixed_spelled k.Tries refl,
          refl,
          refl,
          (
            number_spelled s.tries.value h.tries,
            refl,
            refl,
            (
              fixed_spelled k.Semicolon refl,
              refl,
              refl,
              (
                fixed_spelled k.Workers refl,
                refl,
                refl,
                (
                  number_spelled s.workers.value h.workers,
                  refl,
                  refl,
                  (
                    fixed_spelled k.Semicolon refl,
                    refl,
                    refl,
                    (
                      fixed_spelled k.Gossipers refl,
                      refl,
                      refl,
                      (
                        number_spelled s.gossipers.value h.gossipers,
                        refl,
                        refl,
                        (
                          fixed_spelled k.Semicolon refl,
                          refl,
                          refl,
                          stands_both (concat (map session s.sessions)) _ bytes (rows_stand IsSession session session_stands s.sessions h.sessions) (end_stands bytes),
                        ),
                      ),
                    ),
                  ),
                ),
              ),
            ),
          ),
        ),
      ),
    ),
  ),
)

line_laid : (l : ScriptLine) → IsLine l → Stands (line l)
line_laid (line_of.Go s) h bytes = (fixed_spelled k.Go refl, refl, refl, number_line s h bytes)
line_laid (line_of.Gossip q r) h bytes = (fixed_spelled k.Gossip refl, refl, refl, (number_spelled q h.0, refl, refl, number_line r h.1 bytes))
line_laid (line_of.Cut q r) h bytes = (fixed_spelled k.Cut refl, refl, refl, (number_spelled q h.0, refl, refl, number_line r h.1 bytes))
line_laid (line_of.Join q r) h bytes = (fixed_spelled k.Join refl, refl, refl, (number_spelled q h.0, refl, refl, number_line r h.1 bytes))

script_stands : (ls : List ScriptLine) → AllByRecursion IsLine ls → Stands (script ls)
script_stands ls h bytes = (fixed_spelled k.Script refl, refl, refl, stands_both (concat (map line ls)) _ bytes (rows_stand IsLine line line_laid ls h) (end_stands bytes))

part_stands : {A : Type 0} (P : A → Type 0) (f : A → Pieces) → ((a : A) → P a → Stands (f a)) → (part : Option A) → IfSome part P → Stands (part_of f part)
part_stands P f one None h bytes = tt
part_stands P f one (Some x) h bytes = one x h bytes

pub canonical_laid : (f : FileTree) → IsFile f → AreLaidOut (canonical f)
canonical_laid f h =
    stands_both (program f.program) _ [] (program_stands f.program h.program)
    (stands_both (part_of scene f.scene) _ [] (part_stands IsScene scene scene_stands f.scene h.scene)
    (part_stands (AllByRecursion IsLine) script script_stands f.script h.script []))

-- Programs, scenes and scripts keep within the limits.
use Rattle.std.proofs.Common.{◌≡◌, ℕ, ◌+◌, ◌≤◌, true, false, List, [], ◌∷◌, ◌++◌, map, length, refl, append_assoc, arith}
use Rattle.std.specs.Prelude.{ℤ, if◌then◌else◌, ◌==◌, Option, Some, None, IfSome}
use Rattle.std.specs.List.{AllByRecursion}
use Rattle.carol_syntax.specs.declared.places.Ident.{Ident}
use Rattle.carol_syntax.specs.declared.cells.CellDecl.{CellDecl}
use Rattle.carol_syntax.specs.declared.cells.CellDecl.TheVariants as cell_of
use Rattle.carol_syntax.specs.declared.scenes.CommandDecl.{CommandDecl}
use Rattle.carol_syntax.specs.declared.scenes.SessionDecl.{SessionDecl}
use Rattle.carol_syntax.specs.declared.scenes.SceneDecl.{SceneDecl}
use Rattle.carol_syntax.specs.declared.scenes.ScriptLine.{ScriptLine}
use Rattle.carol_syntax.specs.declared.scenes.ScriptLine.TheVariants as line_of
use Rattle.carol_syntax.specs.Limits.{most_formula_nodes, most_body_depth, most_script_lines}
use Rattle.carol_syntax.specs.Files.{NamedFormula, OpTree, ProgramTree, FileTree}
use Rattle.carol_syntax.specs.declared.kind.Kind.{Kind}
use Rattle.carol_syntax.specs.declared.kind.Kind.TheVariants as k
use Rattle.carol_grammar.specs.declared.counting.Counts.{Counts}
use Rattle.carol_grammar.specs.Limits.{depth_with, begins_line}
use Rattle.carol_grammar.specs.Counts.{IsWithin}
use Rattle.carol_print.specs.Pieces.{fixed}
use Rattle.carol_print.specs.Pieces.Piece.{Space, Break}
use Rattle.carol_print.specs.Canonical.{Pieces, semicolon, opening, closing, colon, name, only_name, number, int, concat, cell, guard, param, op, end, program, times, command, session, setting, scene, pair, line, script, part_of, canonical}
use Rattle.carol_print.specs.Small.{IsSmallNamed, IsSmallOp, IsSmallProgram, IsSmall}
use Rattle.carol_print.proofs.Growing.{Grows, grows_none, grows_more, grows_space, grows_token, grows_silent}
use Rattle.carol_print.proofs.Going.{Goes, At, goes_both, goes_space, goes_break, goes_rows, is_low, bound, at_within, goes_plain, goes_grows, goes_fresh, goes_end, goes_commas, goes_opened, goes_closed, goes_line}
use Rattle.carol_print.proofs.GoingParts.{Lines, grows_int, field_goes, fields_go, formula_goes, line_ends, inside_goes, at_zero}

-- Outside bodies and scripts.

abbrev Outside : Pieces → Type 0
Outside ps = Lines 0 0 ps

outside : (c : Counts) → At 0 0 0 c → IsWithin c
outside c p = at_within 0 0 (omega arith) (omega arith) (omega arith) p

always : {A : Type 0} (xs : List A) → AllByRecursion (λ (x : A). Unit {0}) xs
always [] = tt
always (x ∷ xs) = (tt, always xs)

-- in the open braces of a set or a record
module _ (d : ℕ) (dh : d ≤ most_body_depth) where
  plain_go : (a : ℕ) (ps : Pieces) → is_low a ps ≡ true → Goes (At a d 0) (At (bound a ps) d 0) ps
  plain_go a ps h = goes_plain d 0 dh (omega arith) a ps h

cell_goes : (c : CellDecl) → Outside (cell c)
cell_goes (cell_of.Field f) = goes_both (field_goes 0 0 (omega arith) (omega arith) f) (plain_go 0 (omega arith) 0 (Break ∷ []) refl)
cell_goes (cell_of.Set n members) =
    goes_both (plain_go 0 (omega arith) 0 (fixed k.Set ∷ Space ∷ name n ∷ Space ∷ []) refl)
    (goes_opened 2 0 0 (omega arith) (omega arith) (omega arith) (goes_space (goes_both
    (goes_commas 1 0 (omega arith) (omega arith) (λ (i : Ident). Unit {0}) only_name 0 1 (omega arith) (omega arith) (λ i u. plain_go 1 (omega arith) 0 (only_name i) refl) members (always members))
    (goes_space (goes_closed 1 0 0 (omega arith) (omega arith) (omega arith) (goes_end 0 0 (omega arith) (omega arith) 0 (omega arith)))))))
cell_goes (cell_of.Record n fs) =
    goes_both (plain_go 0 (omega arith) 0 (fixed k.Record ∷ Space ∷ name n ∷ Space ∷ []) refl)
    (goes_opened 2 0 0 (omega arith) (omega arith) (omega arith) (goes_both (fields_go 1 0 (omega arith) (omega arith) fs)
    (goes_space (goes_closed 0 0 0 (omega arith) (omega arith) (omega arith) (plain_go 0 (omega arith) 0 (Break ∷ []) refl)))))

guard_goes : (g : NamedFormula) → IsSmallNamed g → Outside (guard g)
guard_goes g h =
    goes_both (plain_go 0 (omega arith) 0 (fixed k.Guard ∷ Space ∷ name g.name ∷ colon ∷ Space ∷ []) refl)
    (goes_both (formula_goes 0 0 (omega arith) (omega arith) g.formula h) (line_ends 0 0 (omega arith) (omega arith)))

param_goes : (p : NamedFormula) → IsSmallNamed p → Goes (At 3 0 0) (At most_formula_nodes 0 0) (param p)
param_goes p h =
    goes_both (plain_go 0 (omega arith) 3 (name p.name ∷ colon ∷ Space ∷ []) refl) (formula_goes 0 0 (omega arith) (omega arith) p.formula h)

op_goes : (o : OpTree) → IsSmallOp o → Outside (op o)
op_goes o h =
    goes_both (plain_go 0 (omega arith) 0 (fixed k.Op ∷ Space ∷ name o.name ∷ opening ∷ []) refl)
    (goes_both (goes_commas 0 0 (omega arith) (omega arith) IsSmallNamed param 3 most_formula_nodes (omega arith) (omega arith) param_goes o.params h.params)
    (goes_both (goes_grows 0 0 (omega arith) (omega arith) most_formula_nodes most_formula_nodes (omega arith) (omega arith) (grows_silent k.Closing 0 _ refl grows_none))
    (goes_space (goes_fresh 0 0 (omega arith) (omega arith) most_formula_nodes k.Gives 0 _ (omega arith) refl refl (goes_space (goes_both (formula_goes 0 0 (omega arith) (omega arith) o.gives h.gives)
    (goes_space (goes_opened most_formula_nodes 0 0 (omega arith) (omega arith) (omega arith) (goes_break (goes_both (inside_goes 1 0 o.body (omega (arith, h.shallow)) (omega arith) h.body)
    (goes_closed 0 0 0 (omega arith) (omega arith) (omega arith) (plain_go 0 (omega arith) 0 (Break ∷ []) refl))))))))))))

program_goes : (p : ProgramTree) → IsSmallProgram p → Outside (program p)
program_goes p h =
    goes_both (plain_go 0 (omega arith) 0 (fixed k.Program ∷ Break ∷ []) refl)
    (goes_both (goes_rows (λ (c : CellDecl). Unit {0}) cell outside (λ c u. cell_goes c) p.cells (always p.cells))
    (goes_fresh 0 0 (omega arith) (omega arith) 0 k.Invariant 0 _ (omega arith) refl refl (goes_space (goes_both (formula_goes 0 0 (omega arith) (omega arith) p.invariant h.invariant)
    (goes_both (line_ends 0 0 (omega arith) (omega arith))
    (goes_both (goes_rows IsSmallNamed guard outside guard_goes p.guards h.guards)
    (goes_both (goes_rows IsSmallOp op outside op_goes p.ops h.ops) (plain_go 0 (omega arith) 0 end refl))))))))

-- Scenes.

times_grow : (n : ℕ) → Grows 2 (times n)
times_grow n = elim (n == 1) as (λ b. Grows 2 (if b then [] else Space ∷ fixed k.Times ∷ Space ∷ number n ∷ [])) [
  | true ↦ grows_more (omega arith) grows_none
  | false ↦ grows_space (grows_token k.Times 0 _ refl (grows_space (grows_token k.Number n _ refl grows_none)))
]

int_goes : (z : ℤ) → Goes (At 2 1 0) (At 3 1 0) (int z)
int_goes z = goes_grows 1 0 (omega arith) (omega arith) 2 3 (omega arith) (omega arith) (grows_int z)

command_goes : (c : CommandDecl) → Lines 1 0 (command c)
command_goes c =
    goes_both (plain_go 1 (omega arith) 0 (name c.name ∷ opening ∷ []) refl)
    (goes_both (goes_commas 1 0 (omega arith) (omega arith) (λ (z : ℤ). Unit {0}) int 2 3 (omega arith) (omega arith) (λ z u. int_goes z) c.args (always c.args))
    (goes_both (plain_go 1 (omega arith) 3 (closing ∷ []) refl)
    (goes_both (goes_grows 1 0 (omega arith) (omega arith) 3 5 (omega arith) (omega arith) (times_grow c.times.value)) (goes_end 1 0 (omega arith) (omega arith) 5 (omega arith)))))

session_goes : (s : SessionDecl) → Outside (session s)
session_goes s =
    goes_both (plain_go 0 (omega arith) 0 (fixed k.Session ∷ Space ∷ fixed k.At ∷ Space ∷ number s.replica.value ∷ Space ∷ []) refl)
    (goes_opened 3 0 0 (omega arith) (omega arith) (omega arith) (goes_break (goes_both
    (goes_rows (λ (c : CommandDecl). Unit {0}) command (at_zero 1 0 (omega arith) (omega arith)) (λ c u. command_goes c) s.commands (always s.commands))
    (goes_closed 0 0 0 (omega arith) (omega arith) (omega arith) (plain_go 0 (omega arith) 0 (Break ∷ []) refl)))))

scene_goes : (s : SceneDecl) → Outside (scene s)
scene_goes s =
    goes_both (plain_go 0 (omega arith) 0 (fixed k.Scene ∷ Break ∷ []) refl)
    (goes_both (plain_go 0 (omega arith) 0 (setting k.Replicas s.replicas) refl)
    (goes_both (plain_go 0 (omega arith) 0 (setting k.Tries s.tries) refl)
    (goes_both (plain_go 0 (omega arith) 0 (setting k.Workers s.workers) refl)
    (goes_both (plain_go 0 (omega arith) 0 (setting k.Gossipers s.gossipers) refl)
    (goes_both (goes_rows (λ (s : SessionDecl). Unit {0}) session outside (λ s u. session_goes s) s.sessions (always s.sessions)) (plain_go 0 (omega arith) 0 end refl))))))

-- Scripts.

still_go : (n : ℕ) → depth_with n k.Go ≡ n
unfolding depth_with
still_go n = refl

still_pair : (kind : Kind) → begins_line kind ≡ true → (n : ℕ) → depth_with n kind ≡ n
unfolding depth_with begins_line
still_pair k.OpeningBrace h n = absurd cc
still_pair k.ClosingBrace h n = absurd cc
still_pair _ h n = refl

pair_goes : (kind : Kind) (l q r : ℕ) → begins_line kind ≡ true → l + 1 ≤ most_script_lines → Goes (At 0 0 l) (At 0 0 (l + 1)) (pair kind q r)
pair_goes kind l q r b h =
    goes_line kind l 0 _ b (still_pair kind b) h (goes_plain 0 (l + 1) (omega arith) h 1 (Space ∷ number q ∷ Space ∷ number r ∷ semicolon ∷ Break ∷ []) refl)

line_goes : (s : ScriptLine) (l : ℕ) → l + 1 ≤ most_script_lines → Goes (At 0 0 l) (At 0 0 (l + 1)) (line s)
unfolding begins_line
line_goes (line_of.Go s) l h =
    goes_line k.Go l 0 _ refl still_go h (goes_plain 0 (l + 1) (omega arith) h 1 (Space ∷ number s ∷ semicolon ∷ Break ∷ []) refl)
line_goes (line_of.Gossip q r) l h = pair_goes k.Gossip l q r refl h
line_goes (line_of.Cut q r) l h = pair_goes k.Cut l q r refl h
line_goes (line_of.Join q r) l h = pair_goes k.Join l q r refl h

-- the counts of a script's lines, however many
pub record Ended (c : Counts) : Type 0 where
  pub within : IsWithin c

lines_go : (ls : List ScriptLine) (l : ℕ) → l + length ls ≤ most_script_lines → Goes (At 0 0 l) Ended (concat (map line ls) ++ end)
lines_go [] l h =
    let g = goes_plain 0 l (omega arith) (omega arith) 0 end refl in
    record { along = g.along; behind = λ c p. record { within = at_within 0 l (omega arith) (omega arith) (omega arith) (g.behind c p) } }
lines_go (s ∷ ls) l h = rw append_assoc (goes_both (line_goes s l (omega arith)) (lines_go ls (l + 1) (omega arith)))

script_goes : (ls : List ScriptLine) → length ls ≤ most_script_lines → Goes (At 0 0 0) Ended (script ls)
script_goes ls h = goes_both (plain_go 0 (omega arith) 0 (fixed k.Script ∷ Break ∷ []) refl) (lines_go ls 0 (omega arith))

scene_part : (o : Option SceneDecl) → Outside (part_of scene o)
scene_part None = plain_go 0 (omega arith) 0 [] refl
scene_part (Some s) = scene_goes s

script_part : (o : Option (List ScriptLine)) → IfSome o (λ lines. length lines ≤ most_script_lines) → Goes (At 0 0 0) Ended (part_of script o)
script_part None h = record { along = λ c p. outside c p; behind = λ c p. record { within = outside c p } }
script_part (Some ls) h = script_goes ls h

-- the canonical text of a small file
pub canonical_goes : (f : FileTree) → IsSmall f → Goes (At 0 0 0) Ended (canonical f)
canonical_goes f h = goes_both (program_goes f.program h.parts) (goes_both (scene_part f.scene) (script_part f.script h.script))

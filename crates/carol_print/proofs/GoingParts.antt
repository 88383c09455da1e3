-- Declarations, bodies and programs keep within the limits.
use Rattle.std.proofs.Common.{ℕ, ◌+◌, ◌≤◌, List, [], ◌∷◌, map, refl, arith}
use Rattle.std.specs.Prelude.{ℤ, pos, negsuc}
use Rattle.std.specs.Fmt.{decimal}
use Rattle.std.specs.List.{AllByRecursion}
use Rattle.carol_syntax.specs.declared.places.Ident.{Ident}
use Rattle.carol_syntax.specs.declared.formulas.TermDecl.{TermDecl}
use Rattle.carol_syntax.specs.declared.cells.FieldKind.{FieldKind}
use Rattle.carol_syntax.specs.declared.cells.FieldKind.TheVariants as field_kind_of
use Rattle.carol_syntax.specs.declared.cells.FieldDecl.{FieldDecl}
use Rattle.carol_syntax.specs.declared.bodies.Change.{Change}
use Rattle.carol_syntax.specs.declared.bodies.Change.TheVariants as change_of
use Rattle.carol_syntax.specs.declared.bodies.AtomDecl.{AtomDecl}
use Rattle.carol_syntax.specs.declared.bodies.Statement.{Statement}
use Rattle.carol_syntax.specs.declared.bodies.Statement.TheVariants as statement_of
use Rattle.carol_syntax.specs.Limits.{most_formula_nodes, most_body_depth, most_script_lines}
use Rattle.carol_syntax.specs.Formulas.{FormulaTree}
use Rattle.carol_syntax.specs.Bodies.{BodyTree, Return, If}
use Rattle.carol_syntax.specs.Size.{IsSizedTerm, IsSizedChange, IsSizedAtom, body_depth}
use Rattle.carol_syntax.specs.declared.kind.Kind.TheVariants as k
use Rattle.carol_grammar.specs.declared.counting.Counts.{Counts}
use Rattle.carol_grammar.specs.Limits.{counts_anew, depth_with, begins_line}
use Rattle.carol_grammar.specs.Counts.{counts_with, IsWithin}
use Rattle.carol_print.specs.Pieces.{fixed}
use Rattle.carol_print.specs.Pieces.Piece.{Space, Break}
use Rattle.carol_print.specs.Canonical.{Pieces, semicolon, equals, name, int, concat, term, formula, field_kind, field, fields, change, atom, statement, inside}
use Rattle.carol_print.specs.Small.{IsSmallFormula, IsSmallStatement, HasSmallParts}
use Rattle.carol_print.proofs.Growing.{Grows, grows_none, grows_space, grows_token, grows_silent, grows_path, grows_term, grows_formula}
use Rattle.carol_print.proofs.Going.{Goes, At, goes_both, goes_space, goes_break, goes_rows, at_within, goes_plain, goes_grows, goes_fresh, goes_end, goes_commas, goes_opened, goes_closed}

-- a line that keeps what is counted
abbrev pub Lines : ℕ → ℕ → Pieces → Type 0
Lines d l ps = Goes (At 0 d l) (At 0 d l) ps

pub grows_int : (z : ℤ) → Grows 1 (int z)
grows_int (pos n) = grows_token k.Number n (decimal n) refl grows_none
grows_int (negsuc n) = grows_silent k.Minus 0 _ refl (grows_token k.Number _ _ refl grows_none)

kind_before : {n : ℕ} {ps : Pieces} (f : FieldKind) → Grows n ps → Grows (1 + n) (field_kind f ∷ ps)
kind_before field_kind_of.Counter p = grows_token k.Counter 0 _ refl p
kind_before field_kind_of.Peak p = grows_token k.Peak 0 _ refl p
kind_before field_kind_of.Flag p = grows_token k.Flag 0 _ refl p

-- `=` behind `let` and a name
let_counts : (d l : ℕ) (c : Counts) → At 0 d l c → At 0 d l (counts_with (counts_with (counts_with c k.Let) k.Name) k.Equals)
unfolding counts_anew depth_with begins_line
let_counts d l c p = record { nodes_at = omega arith; depth_at = p.depth_at; lines_at = omega (arith, p.lines_at) }

-- a field without its semicolon
field_grows : (f : FieldDecl) → Grows 4 (field_kind f.kind ∷ Space ∷ name f.name ∷ Space ∷ equals ∷ Space ∷ int f.start)
field_grows f = kind_before f.kind (grows_space (grows_token k.Name 0 f.name.word refl (grows_space (grows_token k.Equals 0 _ refl (grows_space (grows_int f.start))))))

module _ (d l : ℕ) (dh : d ≤ most_body_depth) (lh : l ≤ most_script_lines) where
  pub field_goes : (f : FieldDecl) → Lines d l (field f)
  field_goes f = goes_both (goes_grows d l dh lh 0 4 (omega arith) (omega arith) (field_grows f)) (goes_fresh d l dh lh 4 k.Semicolon 0 _ (omega arith) refl refl (goes_plain d l dh lh 0 [] refl))

  pub fields_go : (fs : List FieldDecl) → Lines d l (fields fs)
  fields_go [] = goes_plain d l dh lh 0 [] refl
  fields_go (f ∷ fs) = goes_space (goes_both (field_goes f) (fields_go fs))

  term_goes : (t : TermDecl) → IsSizedTerm t → Goes (At 0 d l) (At most_formula_nodes d l) (term t)
  term_goes t h = goes_grows d l dh lh 0 most_formula_nodes (omega arith) (omega arith) (grows_term t)

  pub formula_goes : (f : FormulaTree) → IsSmallFormula f → Goes (At 0 d l) (At most_formula_nodes d l) (formula f)
  formula_goes f h = goes_grows d l dh lh 0 most_formula_nodes (omega arith) (omega arith) (grows_formula f)

  -- a term or a formula and the end of its line
  pub line_ends : Goes (At most_formula_nodes d l) (At 0 d l) (semicolon ∷ Break ∷ [])
  line_ends = goes_end d l dh lh most_formula_nodes (omega arith)

  change_goes : (c : Change) → IsSizedChange c → Goes (At 2 d l) (At most_formula_nodes d l) (change c)
  change_goes (change_of.Add t) h = goes_fresh d l dh lh 2 k.PlusEquals 0 _ (omega arith) refl refl (goes_space (term_goes t h))
  change_goes (change_of.Take t) h = goes_fresh d l dh lh 2 k.MinusEquals 0 _ (omega arith) refl refl (goes_space (term_goes t h))
  change_goes (change_of.Raise t) h = goes_fresh d l dh lh 2 k.Raise 0 _ (omega arith) refl refl (goes_space (term_goes t h))
  change_goes change_of.Set h = goes_grows d l dh lh 2 most_formula_nodes (omega arith) (omega arith) (grows_token k.Set 0 _ refl grows_none)

  atom_goes : (a : AtomDecl) → IsSizedAtom a → Goes (At 1 d l) (At most_formula_nodes d l) (atom a)
  atom_goes a h = goes_both (goes_grows d l dh lh 1 2 (omega arith) (omega arith) (grows_path a.path.parts)) (goes_space (change_goes a.change h))

  -- `let NAME =`, behind which counting starts anew
  let_goes : (i : Ident) → Lines d l (fixed k.Let ∷ Space ∷ name i ∷ Space ∷ equals ∷ [])
  let_goes i = record {
    along = λ c p.
        let one : At 1 d l (counts_with c k.Let) = head.behind c p in
        let two : At 2 d l (counts_with (counts_with c k.Let) k.Name) = whole.behind c p in
        (at_within d l dh lh (omega arith) p, (at_within d l dh lh (omega arith) one, (at_within d l dh lh (omega arith) two, at_within d l dh lh (omega arith) (let_counts d l c p))));
    behind = λ c p. let_counts d l c p;
  }
    where
      head : Goes (At 0 d l) (At 1 d l) (fixed k.Let ∷ [])
      head = goes_plain d l dh lh 0 (fixed k.Let ∷ []) refl

      whole : Goes (At 0 d l) (At 2 d l) (fixed k.Let ∷ Space ∷ name i ∷ [])
      whole = goes_plain d l dh lh 0 (fixed k.Let ∷ Space ∷ name i ∷ []) refl

  pub statement_goes : (s : Statement) → IsSmallStatement s → Lines d l (statement s)
  statement_goes (statement_of.Query n g) h = goes_plain d l dh lh 0 (statement (statement_of.Query n g)) refl
  statement_goes statement_of.Release h = goes_plain d l dh lh 0 (statement statement_of.Release) refl
  statement_goes (statement_of.Let n t) h = goes_both (let_goes n) (goes_space (goes_both (term_goes t h) line_ends))
  statement_goes (statement_of.Issue atoms) h =
      goes_both (goes_plain d l dh lh 0 (fixed k.Issue ∷ Space ∷ []) refl)
      (goes_both (goes_commas d l dh lh IsSizedAtom atom 1 most_formula_nodes (omega arith) (omega arith) atom_goes atoms h) line_ends)

-- Bodies.

pub at_zero : (d l : ℕ) → d ≤ most_body_depth → l ≤ most_script_lines → (c : Counts) → At 0 d l c → IsWithin c
at_zero d l dh lh c p = at_within d l dh lh (omega arith) p

plains_go : (d l : ℕ) → d ≤ most_body_depth → l ≤ most_script_lines → (ss : List Statement) → AllByRecursion IsSmallStatement ss → Lines d l (concat (map statement ss))
plains_go d l dh lh ss h = goes_rows IsSmallStatement statement (at_zero d l dh lh) (λ s w. statement_goes d l dh lh s w) ss h

body_deep : (b : BodyTree) → 1 ≤ body_depth b
body_deep (Return plain t) = omega arith
body_deep (If plain test first second) = omega arith

pub inside_goes : (d l : ℕ) (b : BodyTree) → d + body_depth b ≤ most_body_depth + 1 → l ≤ most_script_lines → HasSmallParts b → Lines d l (inside b)
inside_goes d l (Return plain t) dh lh h =
    let low : d ≤ most_body_depth = omega arith in
    goes_both (plains_go d l low lh plain h.0)
    (goes_fresh d l low lh 0 k.Return 0 _ (omega arith) refl refl (goes_space (goes_both (term_goes d l low lh t h.1) (line_ends d l low lh))))
inside_goes d l (If plain test first second) dh lh h =
    let one = body_deep first in
    let low : d ≤ most_body_depth = omega arith in
    let in_first : (d + 1) + body_depth first ≤ most_body_depth + 1 = omega arith in
    let in_second : (d + 1) + body_depth second ≤ most_body_depth + 1 = omega arith in
    let deeper : d + 1 ≤ most_body_depth = omega arith in
    goes_both (plains_go d l low lh plain h.0)
    (goes_fresh d l low lh 0 k.If 0 _ (omega arith) refl refl (goes_space (goes_both (formula_goes d l low lh test h.1)
    (goes_space (goes_opened most_formula_nodes d l (omega arith) deeper lh (goes_break (goes_both (inside_goes (d + 1) l first in_first lh h.2)
    (goes_closed 0 d l (omega arith) deeper lh (goes_space (goes_both (goes_plain d l low lh 0 (fixed k.Else ∷ Space ∷ []) refl)
    (goes_opened 1 d l (omega arith) deeper lh (goes_break (goes_both (inside_goes (d + 1) l second in_second lh h.3)
    (goes_closed 0 d l (omega arith) deeper lh (goes_plain d l low lh 0 (Break ∷ []) refl)))))))))))))))

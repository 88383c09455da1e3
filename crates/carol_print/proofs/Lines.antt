-- The text of cells, statements and bodies, part by part; `out` stands before it.
use Rattle.std.proofs.Common.{◌≡◌, ◌<◌, ℕ, ◌+◌, length, drop, map, get_or, List, [], ◌∷◌, ◌++◌, append_assoc}
use Rattle.std.specs.Prelude.{codes}
use Rattle.std.proofs.lemmas.List.{append-nil}
use Rattle.carol_syntax.specs.declared.places.Ident.{Ident}
use Rattle.carol_syntax.specs.declared.formulas.TermDecl.{TermDecl}
use Rattle.carol_syntax.specs.declared.cells.FieldDecl.{FieldDecl}
use Rattle.carol_syntax.specs.declared.cells.CellDecl.TheVariants as cell_of
use Rattle.carol_syntax.specs.declared.bodies.AtomDecl.{AtomDecl}
use Rattle.carol_syntax.specs.declared.bodies.Statement.{Statement}
use Rattle.carol_syntax.specs.declared.bodies.Statement.TheVariants.{Let, Issue}
use Rattle.carol_syntax.specs.Formulas.{FormulaTree}
use Rattle.carol_syntax.specs.Bodies.{BodyTree, Return, If}
use Rattle.carol_print.specs.Pieces.{text_of}
use Rattle.carol_print.specs.Canonical.{cell, only_name, with_commas, concat, path, term, formula, field, fields, change, atom, statement, inside}
use Rattle.carol_print.proofs.LaidLists.{text_of_both}
use Rattle.carol_print.proofs.Texts.{item_at}

-- one field more
pub field_more : (xs : List FieldDecl) (i : ℕ) (x : FieldDecl) (out between new whole : List ℕ) → i < length xs → x ≡ get_or xs i x → between ≡ out ++ (32 ∷ []) → new ≡ between ++ text_of (field x) → out ++ text_of (fields (drop i xs)) ≡ whole → new ++ text_of (fields (drop (i + 1) xs)) ≡ whole
field_more xs i x out between new whole lt is space made so_far =
    rw (made, space, append_assoc, append_assoc, ← text_of_both (field x) (fields (drop (i + 1) xs))) (rw (item_at xs i x lt is) at so_far)

pub atom_text : (a : AtomDecl) (out : List ℕ) → (out ++ text_of (path a.path.parts) ++ codes " ") ++ text_of (change a.change) ≡ out ++ text_of (atom a)
atom_text a out = simp (append_assoc, text_of_both)

pub let_text : (n : Ident) (t : TermDecl) (out : List ℕ) → (out ++ codes "let " ++ text_of (only_name n) ++ codes " = " ++ text_of (term t)) ++ codes ";\n" ≡ out ++ text_of (statement (Let n t))
let_text n t out = simp (append_assoc, append-nil, text_of_both)

pub issue_text : (atoms : List AtomDecl) (out : List ℕ) → (out ++ codes "issue " ++ text_of (with_commas (map atom atoms))) ++ codes ";\n" ≡ out ++ text_of (statement (Issue atoms))
issue_text atoms out = simp (append_assoc, text_of_both)

pub answer_text : (plain : List Statement) (t : TermDecl) (out : List ℕ) → (out ++ text_of (concat (map statement plain)) ++ codes "return " ++ text_of (term t)) ++ codes ";\n" ≡ out ++ text_of (inside (Return plain t))
answer_text plain t out = simp (append_assoc, text_of_both)

pub choice_text : (plain : List Statement) (test : FormulaTree) (first second : BodyTree) (out : List ℕ) → (out ++ text_of (concat (map statement plain)) ++ codes "if " ++ text_of (formula test) ++ codes " {\n" ++ text_of (inside first) ++ codes "} else {\n" ++ text_of (inside second)) ++ codes "}\n" ≡ out ++ text_of (inside (If plain test first second))
choice_text plain test first second out = simp (append_assoc, text_of_both)

pub set_text : (n : Ident) (members : List Ident) (out : List ℕ) → (out ++ codes "set " ++ text_of (only_name n) ++ codes " { " ++ text_of (with_commas (map only_name members))) ++ codes " };\n" ≡ out ++ text_of (cell (cell_of.Set n members))
set_text n members out = simp (append_assoc, append-nil, text_of_both)

pub record_text : (n : Ident) (fs : List FieldDecl) (out : List ℕ) → (out ++ codes "record " ++ text_of (only_name n) ++ codes " {" ++ text_of (fields fs)) ++ codes " }\n" ≡ out ++ text_of (cell (cell_of.Record n fs))
record_text n fs out = simp (append_assoc, append-nil, text_of_both)

-- Statements and bodies stand by themselves.
use Rattle.std.proofs.Common.{[], ◌∷◌, ◌++◌, refl, map}
use Rattle.carol_syntax.specs.declared.bodies.Change.{Change}
use Rattle.carol_syntax.specs.declared.bodies.Change.TheVariants as change_of
use Rattle.carol_syntax.specs.declared.bodies.AtomDecl.{AtomDecl}
use Rattle.carol_syntax.specs.declared.bodies.Statement.{Statement}
use Rattle.carol_syntax.specs.declared.bodies.Statement.TheVariants as statement_of
use Rattle.carol_syntax.specs.Bodies.{BodyTree, Return, If}
use Rattle.carol_syntax.specs.Shape.{IsChange, IsAtom, IsStatement, IsBody}
use Rattle.carol_syntax.specs.declared.kind.Kind.TheVariants as k
use Rattle.carol_print.specs.Pieces.{Space, Break}
use Rattle.carol_print.specs.Canonical.{Pieces, semicolon, path, term, change, atom, with_commas, concat, statement, formula, inside}
use Rattle.carol_print.proofs.Standing.{Fits, Stands, soft_kind, soft_both, stands_both, named, with_commas_fit, rows_stand}
use Rattle.carol_print.proofs.LaidTerms.{path_fits, term_fits}
use Rattle.carol_print.proofs.LaidFormulas.{formula_fits}
use Rattle.carol_print.proofs.Fixed.{fixed_spelled}

change_fits : (c : Change) → IsChange c → Fits (change c)
change_fits (change_of.Add t) h bytes soft = (fixed_spelled k.PlusEquals refl, refl, refl, term_fits t h bytes soft)
change_fits (change_of.Take t) h bytes soft = (fixed_spelled k.MinusEquals refl, refl, refl, term_fits t h bytes soft)
change_fits (change_of.Raise t) h bytes soft = (fixed_spelled k.Raise refl, refl, refl, term_fits t h bytes soft)
change_fits change_of.Set h bytes soft = (fixed_spelled k.Set refl, refl, soft_kind k.Set (λ _. refl) bytes soft, tt)

atom_fits : (a : AtomDecl) → IsAtom a → Fits (atom a)
atom_fits a h bytes soft =
    soft_both (path a.path.parts) (Space ∷ change a.change) bytes (path_fits a.path.parts h.0.2) refl (change_fits a.change h.1 bytes soft)

-- what fits ends a line with a semicolon
pub line_stands : (ps : Pieces) → Fits ps → Stands (ps ++ semicolon ∷ Break ∷ [])
line_stands ps fits bytes = soft_both ps (semicolon ∷ Break ∷ []) bytes fits refl (fixed_spelled k.Semicolon refl, refl, refl, tt)

statement_stands : (s : Statement) → IsStatement s → Stands (statement s)
statement_stands (statement_of.Query n g) h bytes =
    (fixed_spelled k.Query refl, refl, refl, (named n h.0, refl, refl, (fixed_spelled k.Under refl, refl, refl, (named g h.1, refl, refl, (fixed_spelled k.Semicolon refl, refl, refl, tt)))))
statement_stands statement_of.Release h bytes = (fixed_spelled k.Release refl, refl, refl, (fixed_spelled k.Semicolon refl, refl, refl, tt))
statement_stands (statement_of.Let n t) h bytes =
    (fixed_spelled k.Let refl, refl, refl, (named n h.0, refl, refl, (fixed_spelled k.Equals refl, refl, refl, line_stands (term t) (term_fits t h.1) bytes)))
statement_stands (statement_of.Issue atoms) h bytes =
    (fixed_spelled k.Issue refl, refl, refl, line_stands (with_commas (map atom atoms)) (with_commas_fit IsAtom atom atom_fits atoms h.1) bytes)

pub inside_stands : (b : BodyTree) → IsBody b → Stands (inside b)
inside_stands (Return plain t) h bytes =
    stands_both (concat (map statement plain)) _ bytes (rows_stand IsStatement statement statement_stands plain h.0)
    (fixed_spelled k.Return refl, refl, refl, line_stands (term t) (term_fits t h.1) bytes)
inside_stands (If plain test first second) h bytes =
    stands_both (concat (map statement plain)) _ bytes (rows_stand IsStatement statement statement_stands plain h.0) (
      fixed_spelled k.If refl,
      refl,
      refl,
      soft_both (formula test) _ bytes (formula_fits test h.1) refl (
        fixed_spelled k.OpeningBrace refl,
        refl,
        refl,
        stands_both (inside first) _ bytes (inside_stands first h.2) (
          fixed_spelled k.ClosingBrace refl,
          refl,
          refl,
          (
            fixed_spelled k.Else refl,
            refl,
            refl,
            (
              fixed_spelled k.OpeningBrace refl,
              refl,
              refl,
              stands_both (inside second) _ bytes (inside_stands second h.3)
                  (fixed_spelled k.ClosingBrace refl, refl, refl, tt),
            ),
          ),
        ),
      ),
    )

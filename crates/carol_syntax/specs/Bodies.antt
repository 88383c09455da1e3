-- A body as plain data, for definitions that recurse.
use Rattle.std.specs.Prelude.{List}
use Rattle.carol_syntax.specs.declared.formulas.TermDecl.{TermDecl}
use Rattle.carol_syntax.specs.declared.bodies.Statement.{Statement}
use Rattle.carol_syntax.specs.declared.bodies.Body.{Body}
use Rattle.carol_syntax.specs.declared.bodies.Last.TheOpen.{Last-F, Body-F}
use Rattle.carol_syntax.specs.declared.bodies.Last.TheOpen as layer
use Rattle.carol_syntax.specs.declared.bodies.Last.TheFolds.{fold-Body}
use Rattle.carol_syntax.specs.Formulas.{FormulaTree, formula_tree}

-- the statements of a body, and how it ends
pub data BodyTree : Type 0 where
  Return : (plain : List Statement) (value : TermDecl) → BodyTree
  If : (plain : List Statement) (test : FormulaTree) (first second : BodyTree) → BodyTree

-- an end, once the statements before it are given
abbrev pub tree_of_end : Last-F (List Statement → BodyTree) BodyTree → List Statement → BodyTree
tree_of_end (layer.Return value) plain = Return plain value
tree_of_end (layer.If test first second) plain = If plain (formula_tree test) first second

abbrev pub tree_of_body : Body-F (List Statement → BodyTree) BodyTree → BodyTree
tree_of_body body = body.last body.plain

abbrev pub body_tree : Body → BodyTree
body_tree = fold-Body (List Statement → BodyTree) BodyTree tree_of_end tree_of_body

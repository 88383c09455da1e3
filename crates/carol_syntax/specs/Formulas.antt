-- A formula as plain data, for definitions that recurse.
use Rattle.carol_syntax.specs.declared.formulas.TermDecl.{TermDecl}
use Rattle.carol_syntax.specs.declared.formulas.Sign.{Sign}
use Rattle.carol_syntax.specs.declared.formulas.FormulaDecl.{FormulaDecl}
use Rattle.carol_syntax.specs.declared.formulas.FormulaDecl.TheOpen.{FormulaDecl-F}
use Rattle.carol_syntax.specs.declared.formulas.FormulaDecl.TheOpen as layer
use Rattle.carol_syntax.specs.declared.formulas.FormulaDecl.TheFolds.{fold-FormulaDecl}

pub data FormulaTree : Type 0 where
  True : FormulaTree
  False : FormulaTree
  Not : (of : FormulaTree) → FormulaTree
  And : (left right : FormulaTree) → FormulaTree
  Or : (left right : FormulaTree) → FormulaTree
  Compare : (left : TermDecl) (sign : Sign) (right : TermDecl) → FormulaTree

-- one level, with the trees of its parts
abbrev pub tree_of_layer : FormulaDecl-F FormulaTree → FormulaTree
tree_of_layer layer.True = True
tree_of_layer layer.False = False
tree_of_layer (layer.Not f) = Not f
tree_of_layer (layer.And f g) = And f g
tree_of_layer (layer.Or f g) = Or f g
tree_of_layer (layer.Compare left sign right) = Compare left sign right

abbrev pub formula_tree : FormulaDecl → FormulaTree
formula_tree = fold-FormulaDecl FormulaTree tree_of_layer

-- What follows of the size of a tree.
use Rattle.std.proofs.Common.{◌≤◌, List, length, arith}
use Rattle.carol_syntax.specs.declared.formulas.TermDecl.{TermDecl}
use Rattle.carol_syntax.specs.declared.formulas.Sign.{Sign}
use Rattle.carol_syntax.specs.declared.bodies.Statement.{Statement}
use Rattle.carol_syntax.specs.Formulas.{FormulaTree, True, False, Not, And, Or, Compare}
use Rattle.carol_syntax.specs.Bodies.{BodyTree, Return, If}
use Rattle.carol_syntax.specs.Limits.{most_formula_nodes}
use Rattle.carol_syntax.specs.Size.{formula_size, node_count, statement_count, IsSizedTerm, IsSizedFormula}

nodes_below_size : (f : FormulaTree) → node_count f ≤ formula_size f
nodes_below_size True = omega arith
nodes_below_size False = omega arith
nodes_below_size (Not f) = omega (arith, nodes_below_size f)
nodes_below_size (And f g) = omega (arith, nodes_below_size f, nodes_below_size g)
nodes_below_size (Or f g) = omega (arith, nodes_below_size f, nodes_below_size g)
nodes_below_size (Compare left sign right) = omega arith

-- a formula has at most so many nodes without its products, too
pub few_nodes : (f : FormulaTree) → IsSizedFormula f → node_count f ≤ most_formula_nodes
few_nodes f h = omega (arith, nodes_below_size f)

-- the parts of a formula are as small
pub sized_not : (f : FormulaTree) → IsSizedFormula (Not f) → IsSizedFormula f
sized_not f h = omega arith

pub sized_and : (f g : FormulaTree) → IsSizedFormula (And f g) → IsSizedFormula f × IsSizedFormula g
sized_and f g h = (omega arith, omega arith)

pub sized_or : (f g : FormulaTree) → IsSizedFormula (Or f g) → IsSizedFormula f × IsSizedFormula g
sized_or f g h = (omega arith, omega arith)

pub sized_compare : (left : TermDecl) (sign : Sign) (right : TermDecl) → IsSizedFormula (Compare left sign right) → IsSizedTerm left × IsSizedTerm right
sized_compare left sign right h = (omega arith, omega arith)

-- the statements at the front of a body
abbrev pub plain_of : BodyTree → List Statement
plain_of (Return plain value) = plain
plain_of (If plain test first second) = plain

pub few_plain : (b : BodyTree) → length (plain_of b) ≤ statement_count b
few_plain (Return plain value) = omega arith
few_plain (If plain test first second) = omega arith

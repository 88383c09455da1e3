-- How large a program may be whose names are resolved: formulas of few nodes and terms of few products, and bodies that
-- are neither deep nor long. Nothing is asked of how much it declares.
use Rattle.std.specs.Prelude.{◌≤◌, length}
use Rattle.std.specs.List.{AllByRecursion}
use Rattle.carol_syntax.specs.declared.formulas.TermDecl.{TermDecl}
use Rattle.carol_syntax.specs.declared.bodies.Change.{Change}
use Rattle.carol_syntax.specs.declared.bodies.Change.TheVariants.{Add, Take, Raise, Set}
use Rattle.carol_syntax.specs.declared.bodies.AtomDecl.{AtomDecl}
use Rattle.carol_syntax.specs.declared.bodies.Statement.{Statement}
use Rattle.carol_syntax.specs.declared.bodies.Statement.TheVariants as statement
use Rattle.carol_syntax.specs.Formulas.{FormulaTree, True, False, Not, And, Or, Compare}
use Rattle.carol_syntax.specs.Bodies.{BodyTree, Return, If}
use Rattle.carol_syntax.specs.Files.{NamedFormula, OpTree, ProgramTree}
use Rattle.carol_syntax.specs.Size.{node_count, body_depth, statement_count}
use Rattle.carol_program.specs.Limits.{most_nodes, most_products, most_depth, most_statements}

abbrev pub IsShortTerm : TermDecl → Type 0
IsShortTerm t = length t.products ≤ most_products

-- each term of the formula
abbrev pub HasShortTerms : FormulaTree → Type 0
HasShortTerms True = Unit {0}
HasShortTerms False = Unit {0}
HasShortTerms (Not f) = HasShortTerms f
HasShortTerms (And f g) = HasShortTerms f × HasShortTerms g
HasShortTerms (Or f g) = HasShortTerms f × HasShortTerms g
HasShortTerms (Compare left sign right) = IsShortTerm left × IsShortTerm right

-- products are no nodes
abbrev pub IsShortFormula : FormulaTree → Type 0
IsShortFormula f = (node_count f ≤ most_nodes) × HasShortTerms f

abbrev pub IsShortChange : Change → Type 0
IsShortChange (Add t) = IsShortTerm t
IsShortChange (Take t) = IsShortTerm t
IsShortChange (Raise t) = IsShortTerm t
IsShortChange Set = Unit {0}

abbrev pub IsShortAtom : AtomDecl → Type 0
IsShortAtom a = IsShortChange a.change

abbrev pub IsShortStatement : Statement → Type 0
IsShortStatement (statement.Query name guard) = Unit {0}
IsShortStatement statement.Release = Unit {0}
IsShortStatement (statement.Let name term) = IsShortTerm term
IsShortStatement (statement.Issue atoms) = AllByRecursion IsShortAtom atoms

-- the statements, terms and formulas of a body and of its branches
abbrev pub HasShortParts : BodyTree → Type 0
HasShortParts (Return plain value) = AllByRecursion IsShortStatement plain × IsShortTerm value
HasShortParts (If plain test first second) =
    AllByRecursion IsShortStatement plain × IsShortFormula test × HasShortParts first × HasShortParts second

-- the body of an operation
pub record IsShortBody (body : BodyTree) : Type 0 where
  pub parts : HasShortParts body
  pub shallow : body_depth body ≤ most_depth
  pub short : statement_count body ≤ most_statements

abbrev pub IsShortNamed : NamedFormula → Type 0
IsShortNamed n = IsShortFormula n.formula

pub record IsShortOp (op : OpTree) : Type 0 where
  pub params : AllByRecursion IsShortNamed op.params
  pub gives : IsShortFormula op.gives
  pub body : IsShortBody op.body

pub record IsShortProgram (program : ProgramTree) : Type 0 where
  pub invariant : IsShortFormula program.invariant
  pub guards : AllByRecursion IsShortNamed program.guards
  pub ops : AllByRecursion IsShortOp program.ops

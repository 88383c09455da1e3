-- How large a tree is, and which trees are as small as the limits of a text make them.
use Rattle.std.specs.Prelude.{ℕ, ◌+◌, ◌≤◌, max, List, [], ◌∷◌, length, IfSome}
use Rattle.std.specs.List.{AllByRecursion}
use Rattle.carol_syntax.specs.declared.formulas.TermDecl.{TermDecl}
use Rattle.carol_syntax.specs.declared.cells.CellDecl.{CellDecl}
use Rattle.carol_syntax.specs.declared.cells.CellDecl.TheVariants as cell
use Rattle.carol_syntax.specs.declared.bodies.Change.{Change}
use Rattle.carol_syntax.specs.declared.bodies.Change.TheVariants as change
use Rattle.carol_syntax.specs.declared.bodies.AtomDecl.{AtomDecl}
use Rattle.carol_syntax.specs.declared.bodies.Statement.{Statement}
use Rattle.carol_syntax.specs.declared.bodies.Statement.TheVariants as statement
use Rattle.carol_syntax.specs.Limits.{most_program_bytes, most_formula_nodes, most_body_depth, most_script_lines}
use Rattle.carol_syntax.specs.Formulas.{FormulaTree, True, False, Not, And, Or, Compare}
use Rattle.carol_syntax.specs.Bodies.{BodyTree, Return, If}
use Rattle.carol_syntax.specs.Files.{NamedFormula, OpTree, ProgramTree, FileTree}

-- the most items of a list of the program part, and the most statements of an operation: each
-- has a byte at least
abbrev pub most_items : ℕ
most_items = most_program_bytes

-- How large.

-- the nodes of a formula, each product of its terms one of them
abbrev pub formula_size : FormulaTree → ℕ
formula_size True = 1
formula_size False = 1
formula_size (Not f) = 1 + formula_size f
formula_size (And f g) = 1 + (formula_size f + formula_size g)
formula_size (Or f g) = 1 + (formula_size f + formula_size g)
formula_size (Compare left sign right) = 1 + (length left.products + length right.products)

-- the nodes of a formula without the products
abbrev pub node_count : FormulaTree → ℕ
node_count (Not f) = 1 + node_count f
node_count (And f g) = 1 + (node_count f + node_count g)
node_count (Or f g) = 1 + (node_count f + node_count g)
node_count _ = 1

-- a body that holds no other has depth 1
abbrev pub body_depth : BodyTree → ℕ
body_depth (Return plain value) = 1
body_depth (If plain test first second) = 1 + max (body_depth first) (body_depth second)

-- the statements of a body and of its branches
abbrev pub statement_count : BodyTree → ℕ
statement_count (Return plain value) = length plain + 1
statement_count (If plain test first second) = (length plain + 1) + (statement_count first + statement_count second)

-- the single cells of a declaration, and of several
abbrev pub cell_count : CellDecl → ℕ
cell_count (cell.Field f) = 1
cell_count (cell.Set name members) = length members
cell_count (cell.Record name fields) = length fields

abbrev pub cell_total : List CellDecl → ℕ
cell_total [] = 0
cell_total (c ∷ cs) = cell_count c + cell_total cs

-- What is small enough.

abbrev pub IsSizedTerm : TermDecl → Type 0
IsSizedTerm t = length t.products ≤ most_formula_nodes

abbrev pub IsSizedFormula : FormulaTree → Type 0
IsSizedFormula f = formula_size f ≤ most_formula_nodes

-- a list of the program part, and its items
abbrev pub AreSized : {A : Type 0} → (A → Type 0) → List A → Type 0
AreSized P xs = (length xs ≤ most_items) × AllByRecursion P xs

abbrev pub IsSizedChange : Change → Type 0
IsSizedChange (change.Add t) = IsSizedTerm t
IsSizedChange (change.Take t) = IsSizedTerm t
IsSizedChange (change.Raise t) = IsSizedTerm t
IsSizedChange change.Set = Unit {0}

abbrev pub IsSizedAtom : AtomDecl → Type 0
IsSizedAtom a = IsSizedChange a.change

abbrev pub IsSizedStatement : Statement → Type 0
IsSizedStatement (statement.Query name guard) = Unit {0}
IsSizedStatement statement.Release = Unit {0}
IsSizedStatement (statement.Let name term) = IsSizedTerm term
IsSizedStatement (statement.Issue atoms) = AreSized IsSizedAtom atoms

-- the statements, terms and formulas of a body and of its branches
abbrev pub HasSizedParts : BodyTree → Type 0
HasSizedParts (Return plain value) = AllByRecursion IsSizedStatement plain × IsSizedTerm value
HasSizedParts (If plain test first second) =
    AllByRecursion IsSizedStatement plain × IsSizedFormula test × HasSizedParts first × HasSizedParts second

-- the body of an operation
pub record IsSizedBody (body : BodyTree) : Type 0 where
  pub parts : HasSizedParts body
  pub shallow : body_depth body ≤ most_body_depth
  pub short : statement_count body ≤ most_items

abbrev pub IsSizedNamed : NamedFormula → Type 0
IsSizedNamed n = IsSizedFormula n.formula

pub record IsSizedOp (op : OpTree) : Type 0 where
  pub params : AreSized IsSizedNamed op.params
  pub gives : IsSizedFormula op.gives
  pub body : IsSizedBody op.body

pub record IsSizedProgram (program : ProgramTree) : Type 0 where
  pub declarations : length program.cells ≤ most_items
  pub cells : cell_total program.cells ≤ most_items
  pub invariant : IsSizedFormula program.invariant
  pub guards : AreSized IsSizedNamed program.guards
  pub ops : AreSized IsSizedOp program.ops

-- The size of a file that is read.
pub record IsSized (file : FileTree) : Type 0 where
  pub program : IsSizedProgram file.program
  pub script : IfSome file.script (λ lines. length lines ≤ most_script_lines)

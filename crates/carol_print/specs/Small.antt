-- Which files have a canonical text within the limits of a text.
use Rattle.std.specs.Prelude.{ℕ, ◌+◌, ◌≤◌, Bool, true, false, ◌||◌, length, IfSome}
use Rattle.std.specs.List.{AllByRecursion}
use Rattle.carol_syntax.specs.declared.bodies.Statement.{Statement}
use Rattle.carol_syntax.specs.declared.bodies.Statement.TheVariants as statement
use Rattle.carol_syntax.specs.Limits.{most_program_bytes, most_formula_nodes, most_body_depth, most_script_lines}
use Rattle.carol_syntax.specs.Formulas.{FormulaTree, True, False, Not, And, Or, Compare}
use Rattle.carol_syntax.specs.Bodies.{BodyTree, Return, If}
use Rattle.carol_syntax.specs.Files.{NamedFormula, OpTree, ProgramTree, FileTree}
use Rattle.carol_syntax.specs.Size.{IsSizedTerm, IsSizedAtom, body_depth}
use Rattle.carol_print.specs.Pieces.{text_of}
use Rattle.carol_print.specs.Canonical.{is_either, is_both, program}

-- a pair of parentheses is a node more
abbrev pub enclosed_size : Bool → ℕ → ℕ
enclosed_size true n = 1 + n
enclosed_size false n = n

-- the nodes of a formula with the parentheses that are printed, each product of its terms one of
-- them
abbrev pub printed_size : FormulaTree → ℕ
printed_size True = 1
printed_size False = 1
printed_size (Not f) = 1 + enclosed_size (is_either f || is_both f) (printed_size f)
printed_size (And f g) = enclosed_size (is_either f) (printed_size f) + (1 + enclosed_size (is_either g || is_both g) (printed_size g))
printed_size (Or f g) = printed_size f + (1 + enclosed_size (is_either g) (printed_size g))
printed_size (Compare left sign right) = length left.products + (1 + length right.products)

abbrev pub IsSmallFormula : FormulaTree → Type 0
IsSmallFormula f = printed_size f ≤ most_formula_nodes

-- the terms of a statement
abbrev pub IsSmallStatement : Statement → Type 0
IsSmallStatement (statement.Query name guard) = Unit {0}
IsSmallStatement statement.Release = Unit {0}
IsSmallStatement (statement.Let name term) = IsSizedTerm term
IsSmallStatement (statement.Issue atoms) = AllByRecursion IsSizedAtom atoms

-- the statements, terms and formulas of a body and of its branches
abbrev pub HasSmallParts : BodyTree → Type 0
HasSmallParts (Return plain value) = AllByRecursion IsSmallStatement plain × IsSizedTerm value
HasSmallParts (If plain test first second) =
    AllByRecursion IsSmallStatement plain × IsSmallFormula test × HasSmallParts first × HasSmallParts second

abbrev pub IsSmallNamed : NamedFormula → Type 0
IsSmallNamed n = IsSmallFormula n.formula

pub record IsSmallOp (op : OpTree) : Type 0 where
  pub params : AllByRecursion IsSmallNamed op.params
  pub gives : IsSmallFormula op.gives
  pub body : HasSmallParts op.body
  pub shallow : body_depth op.body ≤ most_body_depth

pub record IsSmallProgram (program : ProgramTree) : Type 0 where
  pub invariant : IsSmallFormula program.invariant
  pub guards : AllByRecursion IsSmallNamed program.guards
  pub ops : AllByRecursion IsSmallOp program.ops

-- A file whose formulas, terms, bodies and script are within the limits, and whose program has few
-- enough bytes when it is printed, up to its word `end`; a line feed stands behind that.
pub record IsSmall (file : FileTree) : Type 0 where
  pub parts : IsSmallProgram file.program
  pub bytes : length (text_of (program file.program)) ≤ most_program_bytes + 1
  pub script : IfSome file.script (λ lines. length lines ≤ most_script_lines)

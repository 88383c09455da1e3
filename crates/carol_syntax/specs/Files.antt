-- A file as plain data: the tree, with the plain twins of its formulas and bodies.
use Rattle.std.specs.Prelude.{ℕ, List, Option, map}
use Rattle.carol_syntax.specs.declared.places.Ident.{Ident}
use Rattle.carol_syntax.specs.declared.cells.CellDecl.{CellDecl}
use Rattle.carol_syntax.specs.declared.scenes.SceneDecl.{SceneDecl}
use Rattle.carol_syntax.specs.declared.scenes.ScriptLine.{ScriptLine}
use Rattle.carol_syntax.specs.declared.operations.ParamDecl.{ParamDecl}
use Rattle.carol_syntax.specs.declared.operations.OpDecl.{OpDecl}
use Rattle.carol_syntax.specs.declared.files.GuardDecl.{GuardDecl}
use Rattle.carol_syntax.specs.declared.files.ProgramDecl.{ProgramDecl}
use Rattle.carol_syntax.specs.declared.files.File.{File}
use Rattle.carol_syntax.specs.Formulas.{FormulaTree, formula_tree}
use Rattle.carol_syntax.specs.Bodies.{BodyTree, body_tree}

-- a parameter or a guard
pub record NamedFormula : Type 0 where
  pub name : Ident
  pub formula : FormulaTree

pub record OpTree : Type 0 where
  pub name : Ident
  pub params : List NamedFormula
  pub gives : FormulaTree
  pub body : BodyTree

pub record ProgramTree : Type 0 where
  pub cells : List CellDecl
  pub invariant : FormulaTree
  pub guards : List NamedFormula
  pub ops : List OpTree

pub record FileTree : Type 0 where
  pub program : ProgramTree
  pub scene : Option SceneDecl
  pub script : Option (List ScriptLine)
  pub tail : Option ℕ

abbrev pub param_tree : ParamDecl → NamedFormula
param_tree p = record { name = p.name; formula = formula_tree p.formula }

abbrev pub guard_tree : GuardDecl → NamedFormula
guard_tree g = record { name = g.name; formula = formula_tree g.formula }

abbrev pub op_tree : OpDecl → OpTree
op_tree o = record { name = o.name; params = map param_tree o.params; gives = formula_tree o.gives; body = body_tree o.body }

abbrev pub program_tree : ProgramDecl → ProgramTree
program_tree p = record { cells = p.cells; invariant = formula_tree p.invariant; guards = map guard_tree p.guards; ops = map op_tree p.ops }

abbrev pub file_tree : File → FileTree
file_tree f = record { program = program_tree f.program; scene = f.scene; script = f.script; tail = f.tail }

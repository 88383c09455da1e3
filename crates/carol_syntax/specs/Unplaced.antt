-- Trees that are equal but for the places that they name: they are equal once every place is the
-- same one. Of a transcript only that there is one counts.
use Rattle.std.specs.Prelude.{◌≡◌, map, option_map}
use Rattle.carol_syntax.specs.declared.places.Span.{Span}
use Rattle.carol_syntax.specs.declared.places.Ident.{Ident}
use Rattle.carol_syntax.specs.declared.places.Num.{Num}
use Rattle.carol_syntax.specs.declared.formulas.ValueDecl.{ValueDecl}
use Rattle.carol_syntax.specs.declared.formulas.ProductDecl.{ProductDecl}
use Rattle.carol_syntax.specs.declared.formulas.TermDecl.{TermDecl}
use Rattle.carol_syntax.specs.declared.cells.FieldDecl.{FieldDecl}
use Rattle.carol_syntax.specs.declared.cells.CellDecl.{CellDecl}
use Rattle.carol_syntax.specs.declared.cells.CellDecl.TheVariants as cell
use Rattle.carol_syntax.specs.declared.bodies.Change.{Change}
use Rattle.carol_syntax.specs.declared.bodies.Change.TheVariants as change
use Rattle.carol_syntax.specs.declared.bodies.AtomDecl.{AtomDecl}
use Rattle.carol_syntax.specs.declared.bodies.Statement.{Statement}
use Rattle.carol_syntax.specs.declared.bodies.Statement.TheVariants as statement
use Rattle.carol_syntax.specs.declared.scenes.CommandDecl.{CommandDecl}
use Rattle.carol_syntax.specs.declared.scenes.SessionDecl.{SessionDecl}
use Rattle.carol_syntax.specs.declared.scenes.SceneDecl.{SceneDecl}
use Rattle.carol_syntax.specs.Formulas.{FormulaTree, True, False, Not, And, Or, Compare}
use Rattle.carol_syntax.specs.Bodies.{BodyTree, Return, If}
use Rattle.carol_syntax.specs.Files.{NamedFormula, OpTree, ProgramTree, FileTree}

abbrev pub nowhere : Span
nowhere = record { line = 0; column = 0 }

abbrev pub unplaced_name : Ident → Ident
unplaced_name i = record i { span = nowhere }

abbrev pub unplaced_number : Num → Num
unplaced_number n = record n { span = nowhere }

abbrev pub unplaced_value : ValueDecl → ValueDecl
unplaced_value v = record { span = nowhere; kind = v.kind; parts = map unplaced_name v.parts }

abbrev pub unplaced_product : ProductDecl → ProductDecl
unplaced_product p = record p { value = option_map unplaced_value p.value }

abbrev pub unplaced_term : TermDecl → TermDecl
unplaced_term t = record { span = nowhere; products = map unplaced_product t.products }

abbrev pub unplaced_formula : FormulaTree → FormulaTree
unplaced_formula True = True
unplaced_formula False = False
unplaced_formula (Not f) = Not (unplaced_formula f)
unplaced_formula (And f g) = And (unplaced_formula f) (unplaced_formula g)
unplaced_formula (Or f g) = Or (unplaced_formula f) (unplaced_formula g)
unplaced_formula (Compare left sign right) = Compare (unplaced_term left) sign (unplaced_term right)

abbrev pub unplaced_field : FieldDecl → FieldDecl
unplaced_field f = record f { name = unplaced_name f.name }

abbrev pub unplaced_cell : CellDecl → CellDecl
unplaced_cell (cell.Field f) = cell.Field (unplaced_field f)
unplaced_cell (cell.Set name members) = cell.Set (unplaced_name name) (map unplaced_name members)
unplaced_cell (cell.Record name fields) = cell.Record (unplaced_name name) (map unplaced_field fields)

abbrev pub unplaced_change : Change → Change
unplaced_change (change.Add t) = change.Add (unplaced_term t)
unplaced_change (change.Take t) = change.Take (unplaced_term t)
unplaced_change (change.Raise t) = change.Raise (unplaced_term t)
unplaced_change change.Set = change.Set

abbrev pub unplaced_atom : AtomDecl → AtomDecl
unplaced_atom a = record { path = record { parts = map unplaced_name a.path.parts }; change = unplaced_change a.change }

abbrev pub unplaced_statement : Statement → Statement
unplaced_statement (statement.Query name guard) = statement.Query (unplaced_name name) (unplaced_name guard)
unplaced_statement statement.Release = statement.Release
unplaced_statement (statement.Let name term) = statement.Let (unplaced_name name) (unplaced_term term)
unplaced_statement (statement.Issue atoms) = statement.Issue (map unplaced_atom atoms)

abbrev pub unplaced_body : BodyTree → BodyTree
unplaced_body (Return plain value) = Return (map unplaced_statement plain) (unplaced_term value)
unplaced_body (If plain test first second) =
    If (map unplaced_statement plain) (unplaced_formula test) (unplaced_body first) (unplaced_body second)

abbrev pub unplaced_named : NamedFormula → NamedFormula
unplaced_named n = record { name = unplaced_name n.name; formula = unplaced_formula n.formula }

abbrev pub unplaced_op : OpTree → OpTree
unplaced_op o = record {
  name = unplaced_name o.name;
  params = map unplaced_named o.params;
  gives = unplaced_formula o.gives;
  body = unplaced_body o.body;
}

abbrev pub unplaced_program : ProgramTree → ProgramTree
unplaced_program p = record {
  cells = map unplaced_cell p.cells;
  invariant = unplaced_formula p.invariant;
  guards = map unplaced_named p.guards;
  ops = map unplaced_op p.ops;
}

abbrev pub unplaced_command : CommandDecl → CommandDecl
unplaced_command c = record { name = unplaced_name c.name; args = c.args; times = unplaced_number c.times }

abbrev pub unplaced_session : SessionDecl → SessionDecl
unplaced_session s = record { span = nowhere; replica = unplaced_number s.replica; commands = map unplaced_command s.commands }

abbrev pub unplaced_scene : SceneDecl → SceneDecl
unplaced_scene s = record {
  replicas = unplaced_number s.replicas;
  tries = unplaced_number s.tries;
  workers = unplaced_number s.workers;
  gossipers = unplaced_number s.gossipers;
  sessions = map unplaced_session s.sessions;
}

abbrev pub unplaced : FileTree → FileTree
unplaced f = record {
  program = unplaced_program f.program;
  scene = option_map unplaced_scene f.scene;
  script = f.script;
  tail = option_map (λ _. 0) f.tail;
}

abbrev pub SameButPlaces : FileTree → FileTree → Type 0
SameButPlaces f g = unplaced f ≡ unplaced g

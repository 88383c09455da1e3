-- A tree is what it is without places, with its places put back.
use Rattle.std.proofs.Common.{◌≡◌, List, [], ◌∷◌, map, Option, refl, ◌∙◌, ap, sym}
use Rattle.std.specs.Prelude.{Some, None, option_map}
use Rattle.carol_syntax.specs.declared.places.Ident.{Ident}
use Rattle.carol_syntax.specs.declared.formulas.ValueDecl.{ValueDecl}
use Rattle.carol_syntax.specs.declared.formulas.ProductDecl.{ProductDecl}
use Rattle.carol_syntax.specs.declared.formulas.TermDecl.{TermDecl}
use Rattle.carol_syntax.specs.declared.cells.FieldDecl.{FieldDecl}
use Rattle.carol_syntax.specs.declared.cells.CellDecl.{CellDecl}
use Rattle.carol_syntax.specs.declared.cells.CellDecl.TheVariants as cell
use Rattle.carol_syntax.specs.declared.bodies.Change.{Change}
use Rattle.carol_syntax.specs.declared.bodies.Change.TheVariants as change
use Rattle.carol_syntax.specs.declared.bodies.AtomDecl.{AtomDecl}
use Rattle.carol_syntax.specs.declared.bodies.Statement.{Statement}
use Rattle.carol_syntax.specs.declared.bodies.Statement.TheVariants as statement
use Rattle.carol_syntax.specs.Formulas.{FormulaTree, True, False, Not, And, Or, Compare}
use Rattle.carol_syntax.specs.Bodies.{BodyTree, Return, If}
use Rattle.carol_syntax.specs.Files.{NamedFormula, OpTree, ProgramTree}
use Rattle.carol_syntax.specs.Unplaced.{unplaced_name, unplaced_value, unplaced_product, unplaced_term, unplaced_formula, unplaced_field, unplaced_cell, unplaced_change, unplaced_atom, unplaced_statement, unplaced_body, unplaced_named, unplaced_op, unplaced_program}

-- Each function takes the places of its first argument and all else of its second; where they have
-- no part in common, it takes the part of the second.

abbrev first_of : {A : Type 0} → A → List A → A
first_of d [] = d
first_of d (x ∷ xs) = x

abbrev rest_of : {A : Type 0} → List A → List A
rest_of [] = []
rest_of (x ∷ xs) = xs

abbrev each : {A : Type 0} → (A → A → A) → List A → List A → List A
each f ts [] = []
each f ts (u ∷ us) = f (first_of u ts) u ∷ each f (rest_of ts) us

each_same : {A : Type 0} (f : A → A → A) (g : A → A) → ((t : A) → f t (g t) ≡ t) → (ts : List A) → each f ts (map g ts) ≡ ts
each_same f g h [] = refl
each_same f g h (t ∷ ts) = rw (h t, each_same f g h ts) refl

abbrev value_or : {A : Type 0} → A → Option A → A
value_or d None = d
value_or d (Some x) = x

abbrev perhaps : {A : Type 0} → (A → A → A) → Option A → Option A → Option A
perhaps f t None = None
perhaps f t (Some u) = Some (f (value_or u t) u)

perhaps_same : {A : Type 0} (f : A → A → A) (g : A → A) → ((t : A) → f t (g t) ≡ t) → (t : Option A) → perhaps f t (option_map g t) ≡ t
perhaps_same f g h None = refl
perhaps_same f g h (Some t) = ap Some (h t)

abbrev pub name : Ident → Ident → Ident
name t u = record { word = u.word; span = t.span }

name_same : (t : Ident) → name t (unplaced_name t) ≡ t
name_same t = refl

abbrev value : ValueDecl → ValueDecl → ValueDecl
value t u = record { span = t.span; kind = u.kind; parts = each name t.parts u.parts }

value_same : (t : ValueDecl) → value t (unplaced_value t) ≡ t
value_same t = rw (each_same name unplaced_name name_same t.parts) refl

abbrev product : ProductDecl → ProductDecl → ProductDecl
product t u = record { minus = u.minus; factor = u.factor; value = perhaps value t.value u.value }

product_same : (t : ProductDecl) → product t (unplaced_product t) ≡ t
product_same t = rw (perhaps_same value unplaced_value value_same t.value) refl

abbrev term : TermDecl → TermDecl → TermDecl
term t u = record { span = t.span; products = each product t.products u.products }

term_same : (t : TermDecl) → term t (unplaced_term t) ≡ t
term_same t = rw (each_same product unplaced_product product_same t.products) refl

abbrev left_of : FormulaTree → FormulaTree
left_of (Not f) = f
left_of (And f g) = f
left_of (Or f g) = f
left_of f = f

abbrev right_of : FormulaTree → FormulaTree
right_of (And f g) = g
right_of (Or f g) = g
right_of f = f

abbrev left_term : TermDecl → FormulaTree → TermDecl
left_term d (Compare s sign t) = s
left_term d f = d

abbrev right_term : TermDecl → FormulaTree → TermDecl
right_term d (Compare s sign t) = t
right_term d f = d

abbrev formula : FormulaTree → FormulaTree → FormulaTree
formula t True = True
formula t False = False
formula t (Not f) = Not (formula (left_of t) f)
formula t (And f g) = And (formula (left_of t) f) (formula (right_of t) g)
formula t (Or f g) = Or (formula (left_of t) f) (formula (right_of t) g)
formula t (Compare l sign r) = Compare (term (left_term l t) l) sign (term (right_term r t) r)

formula_same : (t : FormulaTree) → formula t (unplaced_formula t) ≡ t
formula_same True = refl
formula_same False = refl
formula_same (Not f) = ap Not (formula_same f)
formula_same (And f g) = rw (formula_same f, formula_same g) refl
formula_same (Or f g) = rw (formula_same f, formula_same g) refl
formula_same (Compare l sign r) = rw (term_same l, term_same r) refl

abbrev field : FieldDecl → FieldDecl → FieldDecl
field t u = record { kind = u.kind; name = name t.name u.name; start = u.start }

field_same : (t : FieldDecl) → field t (unplaced_field t) ≡ t
field_same t = refl

abbrev field_in : FieldDecl → CellDecl → FieldDecl
field_in d (cell.Field f) = f
field_in d c = d

abbrev name_in : Ident → CellDecl → Ident
name_in d (cell.Field f) = d
name_in d (cell.Set n members) = n
name_in d (cell.Record n fields) = n

abbrev members_in : CellDecl → List Ident
members_in (cell.Set n members) = members
members_in c = []

abbrev fields_in : CellDecl → List FieldDecl
fields_in (cell.Record n fields) = fields
fields_in c = []

abbrev place_cell : CellDecl → CellDecl → CellDecl
place_cell t (cell.Field f) = cell.Field (field (field_in f t) f)
place_cell t (cell.Set n members) = cell.Set (name (name_in n t) n) (each name (members_in t) members)
place_cell t (cell.Record n fields) = cell.Record (name (name_in n t) n) (each field (fields_in t) fields)

cell_same : (t : CellDecl) → place_cell t (unplaced_cell t) ≡ t
cell_same (cell.Field f) = refl
cell_same (cell.Set n members) = rw (each_same name unplaced_name name_same members) refl
cell_same (cell.Record n fields) = rw (each_same field unplaced_field field_same fields) refl

abbrev changed_by : TermDecl → Change → TermDecl
changed_by d (change.Add t) = t
changed_by d (change.Take t) = t
changed_by d (change.Raise t) = t
changed_by d change.Set = d

abbrev place_change : Change → Change → Change
place_change t (change.Add u) = change.Add (term (changed_by u t) u)
place_change t (change.Take u) = change.Take (term (changed_by u t) u)
place_change t (change.Raise u) = change.Raise (term (changed_by u t) u)
place_change t change.Set = change.Set

change_same : (t : Change) → place_change t (unplaced_change t) ≡ t
change_same (change.Add t) = ap change.Add (term_same t)
change_same (change.Take t) = ap change.Take (term_same t)
change_same (change.Raise t) = ap change.Raise (term_same t)
change_same change.Set = refl

abbrev atom : AtomDecl → AtomDecl → AtomDecl
atom t u = record { path = record { parts = each name t.path.parts u.path.parts }; change = place_change t.change u.change }

atom_same : (t : AtomDecl) → atom t (unplaced_atom t) ≡ t
atom_same t = rw (each_same name unplaced_name name_same t.path.parts, change_same t.change) refl

abbrev named_in : Ident → Statement → Ident
named_in d (statement.Query n g) = n
named_in d (statement.Let n t) = n
named_in d s = d

abbrev guard_in : Ident → Statement → Ident
guard_in d (statement.Query n g) = g
guard_in d s = d

abbrev term_in : TermDecl → Statement → TermDecl
term_in d (statement.Let n t) = t
term_in d s = d

abbrev atoms_in : Statement → List AtomDecl
atoms_in (statement.Issue atoms) = atoms
atoms_in s = []

abbrev place_statement : Statement → Statement → Statement
place_statement t (statement.Query n g) = statement.Query (name (named_in n t) n) (name (guard_in g t) g)
place_statement t statement.Release = statement.Release
place_statement t (statement.Let n u) = statement.Let (name (named_in n t) n) (term (term_in u t) u)
place_statement t (statement.Issue atoms) = statement.Issue (each atom (atoms_in t) atoms)

statement_same : (t : Statement) → place_statement t (unplaced_statement t) ≡ t
statement_same (statement.Query n g) = refl
statement_same statement.Release = refl
statement_same (statement.Let n t) = rw (term_same t) refl
statement_same (statement.Issue atoms) = ap statement.Issue (each_same atom unplaced_atom atom_same atoms)

abbrev plain_in : BodyTree → List Statement
plain_in (Return plain t) = plain
plain_in (If plain test first second) = plain

abbrev answer_in : TermDecl → BodyTree → TermDecl
answer_in d (Return plain t) = t
answer_in d b = d

abbrev test_in : FormulaTree → BodyTree → FormulaTree
test_in d (If plain test first second) = test
test_in d b = d

abbrev first_in : BodyTree → BodyTree
first_in (If plain test first second) = first
first_in b = b

abbrev second_in : BodyTree → BodyTree
second_in (If plain test first second) = second
second_in b = b

abbrev body : BodyTree → BodyTree → BodyTree
body t (Return plain u) = Return (each place_statement (plain_in t) plain) (term (answer_in u t) u)
body t (If plain test first second) =
    If (each place_statement (plain_in t) plain) (formula (test_in test t) test) (body (first_in t) first) (body (second_in t) second)

body_same : (t : BodyTree) → body t (unplaced_body t) ≡ t
body_same (Return plain t) = rw (each_same place_statement unplaced_statement statement_same plain, term_same t) refl
body_same (If plain test first second) =
    rw (each_same place_statement unplaced_statement statement_same plain, formula_same test, body_same first, body_same second) refl

abbrev named : NamedFormula → NamedFormula → NamedFormula
named t u = record { name = name t.name u.name; formula = formula t.formula u.formula }

named_same : (t : NamedFormula) → named t (unplaced_named t) ≡ t
named_same t = rw (formula_same t.formula) refl

abbrev op : OpTree → OpTree → OpTree
op t u = record { name = name t.name u.name; params = each named t.params u.params; gives = formula t.gives u.gives; body = body t.body u.body }

op_same : (t : OpTree) → op t (unplaced_op t) ≡ t
op_same t = rw (each_same named unplaced_named named_same t.params, formula_same t.gives, body_same t.body) refl

abbrev pub program : ProgramTree → ProgramTree → ProgramTree
program t u = record {
  cells = each place_cell t.cells u.cells;
  invariant = formula t.invariant u.invariant;
  guards = each named t.guards u.guards;
  ops = each op t.ops u.ops;
}

program_same : (t : ProgramTree) → program t (unplaced_program t) ≡ t
program_same t = rw (each_same place_cell unplaced_cell cell_same t.cells, formula_same t.invariant, each_same named unplaced_named named_same t.guards, each_same op unplaced_op op_same t.ops) refl

-- a program that is this one without its places is this one with its places
pub program_placed : (t u : ProgramTree) → unplaced_program t ≡ u → t ≡ program t u
program_placed t u e = sym (program_same t) ∙ ap (program t) e

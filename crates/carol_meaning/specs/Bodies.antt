-- What a body stands for, and what is wrong with it.
use Rattle.std.specs.Prelude.{ℕ, ◌+◌, Bool, true, false, ◌||◌, ◌==◌, if◌then◌else◌, List, [], ◌∷◌, ◌++◌, length, pos, neg_ℤ, Option, Some, None}
use Rattle.carol_store.specs.declared.shape.CellKind.{CellKind}
use Rattle.carol_store.specs.declared.shape.CellKind.TheVariants.{Counter, Peak, Flag}
use Rattle.carol_formula.specs.Linear.{Linear, constant_of, scaled}
use Rattle.carol_syntax.specs.declared.places.Ident.{Ident}
use Rattle.carol_syntax.specs.declared.cells.CellDecl.{CellDecl}
use Rattle.carol_syntax.specs.declared.formulas.ValueDecl.{ValueDecl}
use Rattle.carol_syntax.specs.declared.bodies.PathDecl.{PathDecl}
use Rattle.carol_syntax.specs.declared.bodies.Change.{Change}
use Rattle.carol_syntax.specs.declared.bodies.Change.TheVariants.{Add, Take, Raise, Set}
use Rattle.carol_syntax.specs.declared.bodies.AtomDecl.{AtomDecl}
use Rattle.carol_syntax.specs.declared.bodies.Statement.{Statement}
use Rattle.carol_syntax.specs.declared.bodies.Statement.TheVariants as statement
use Rattle.carol_syntax.specs.Bodies.{BodyTree, Return, If}
use Rattle.carol_syntax.specs.Size.{statement_count}
use Rattle.carol_program.specs.declared.steps.Part.{Part}
use Rattle.carol_program.specs.Bodies as body
use Rattle.carol_program.specs.Bodies.{Body}
use Rattle.carol_meaning.specs.declared.fault.NameKind.{NameKind}
use Rattle.carol_meaning.specs.declared.fault.NameKind.TheVariants.{Twice, Unknown, WrongKind}
use Rattle.carol_meaning.specs.declared.fault.Fault.{Fault}
use Rattle.carol_meaning.specs.Faults.{fault_at, fault_of}
use Rattle.carol_meaning.specs.Declarations.{place_of}
use Rattle.carol_meaning.specs.declared.named.Named.{Named}
use Rattle.carol_meaning.specs.declared.named.Named.TheVariants.{Cell, Members, Missing, Misused}
use Rattle.carol_meaning.specs.Cells.{named}
use Rattle.carol_meaning.specs.Terms.{Look, term_worth, term_faults, term_meaning, formula_meaning, formula_faults, is_small}
use Rattle.carol_meaning.specs.Stores.{words, first_word, path_span}
use Rattle.carol_meaning.specs.declared.meaning.Meaning.TheVariants.{Queried, Bound}
use Rattle.carol_meaning.specs.Scopes.{Scope, declared, in_scope}

-- what the program declares that a body names
pub record Around : Type 0 where
  pub cells : List CellDecl
  pub guards : List Ident

-- where a statement stands: what names stand for, the slot of the next query, and its number
pub record Point : Type 0 where
  pub scope : Scope
  pub slot : ℕ
  pub number : ℕ

-- what a value is at a place of a body
abbrev pub in_body : Around → Point → Look
in_body around at = in_scope around.cells false at.scope

-- ---- issues

abbrev pub path_fault : NameKind → PathDecl → Fault
path_fault kind path = fault_at kind (path_span (record { line = 0; column = 0 }) path.parts) (first_word path.parts)

-- a cell of this kind can be changed so
abbrev pub suits : CellKind → Change → Bool
suits Counter (Add t) = true
suits Counter (Take t) = true
suits Counter (Raise t) = false
suits Counter Set = false
suits Peak (Add t) = false
suits Peak (Take t) = false
suits Peak (Raise t) = true
suits Peak Set = false
suits Flag (Add t) = false
suits Flag (Take t) = false
suits Flag (Raise t) = false
suits Flag Set = true

-- what is wrong with a change of what a path names
abbrev pub change_faults : PathDecl → Change → Named → List Fault
change_faults path change (Cell number kind) = if suits kind change then [] else (path_fault WrongKind path ∷ [])
change_faults path change (Members first count) = path_fault WrongKind path ∷ []
change_faults path change Missing = path_fault Unknown path ∷ []
change_faults path change Misused = path_fault WrongKind path ∷ []

abbrev pub amount_faults : Look → Change → List Fault
amount_faults look (Add t) = term_faults look t
amount_faults look (Take t) = term_faults look t
amount_faults look (Raise t) = term_faults look t
amount_faults look Set = []

-- the number of a cell, 0 for what is none
abbrev pub cell_number : Named → ℕ
cell_number (Cell number kind) = number
cell_number found = 0

abbrev pub has_number : ℕ → List ℕ → Bool
has_number n [] = false
has_number n (m ∷ ms) = n == m || has_number n ms

-- a cell that is one of those
abbrev pub again_faults : List ℕ → PathDecl → Named → List Fault
again_faults seen path (Cell number kind) = if has_number number seen then (path_fault Twice path ∷ []) else []
again_faults seen path found = []

-- the cells that were seen, and what a path names
abbrev pub seen_with : List ℕ → Named → List ℕ
seen_with seen (Cell number kind) = number ∷ seen
seen_with seen found = seen

abbrev pub atom_faults : Around → Point → List ℕ → AtomDecl → Named → List Fault
atom_faults around at seen a found =
    again_faults seen a.path found ++ (change_faults a.path a.change found ++ amount_faults (in_body around at) a.change)

abbrev pub target : Around → AtomDecl → Named
target around a = named around.cells (words a.path.parts)

-- the faults of an issue's changes, behind changes of these cells
abbrev pub issue_faults : Around → Point → List ℕ → List AtomDecl → List Fault
issue_faults around at seen [] = []
issue_faults around at seen (a ∷ more) =
    atom_faults around at seen a (target around a) ++ issue_faults around at (seen_with seen (target around a)) more

-- what is added to a counter, a peak's target, and 1 for a flag
abbrev pub amount_of : Look → Change → Linear
amount_of look (Add t) = term_meaning look t
amount_of look (Take t) = scaled (neg_ℤ (pos 1)) (term_meaning look t)
amount_of look (Raise t) = term_meaning look t
amount_of look Set = constant_of (pos 1)

abbrev pub part_of : Around → Point → AtomDecl → Part
part_of around at a = record { cell = cell_number (target around a); amount = amount_of (in_body around at) a.change }

abbrev pub parts_of : Around → Point → List AtomDecl → List Part
parts_of around at [] = []
parts_of around at (a ∷ more) = part_of around at a ∷ parts_of around at more

-- ---- statements

abbrev pub small_or_none : Option Linear → Option Linear
small_or_none None = None
small_or_none (Some t) = if is_small t then Some t else None

-- the place behind a statement
abbrev pub passed : Around → Point → Statement → Point
passed around at (statement.Query name guard) =
    record { scope = declared name.word (Queried at.slot) at.scope; slot = at.slot + 1; number = at.number + 1 }
passed around at statement.Release = record { scope = at.scope; slot = at.slot; number = at.number + 1 }
passed around at (statement.Let name term) = record {
  scope = declared name.word (Bound (small_or_none (term_worth (in_body around at) term))) at.scope;
  slot = at.slot;
  number = at.number + 1;
}
passed around at (statement.Issue atoms) = record { scope = at.scope; slot = at.slot; number = at.number + 1 }

abbrev pub unknown_guard : Ident → Option ℕ → List Fault
unknown_guard guard None = fault_of Unknown guard ∷ []
unknown_guard guard (Some n) = []

abbrev pub statement_faults : Around → Point → Statement → List Fault
statement_faults around at (statement.Query name guard) = unknown_guard guard (place_of guard.word around.guards)
statement_faults around at statement.Release = []
statement_faults around at (statement.Let name term) = term_faults (in_body around at) term
statement_faults around at (statement.Issue atoms) = issue_faults around at [] atoms

abbrev pub guard_number : Option ℕ → ℕ
guard_number None = 0
guard_number (Some n) = n

-- a statement before what follows it
abbrev pub before : Around → Point → Statement → Body → Body
before around at (statement.Query name guard) next = body.Query at.number (guard_number (place_of guard.word around.guards)) at.slot next
before around at statement.Release next = body.Release at.number next
before around at (statement.Let name term) next = next
before around at (statement.Issue atoms) next = body.Issue at.number (parts_of around at atoms) next

-- the place behind statements
abbrev pub behind : Around → Point → List Statement → Point
behind around at [] = at
behind around at (s ∷ ss) = behind around (passed around at s) ss

abbrev pub plain_faults : Around → Point → List Statement → List Fault
plain_faults around at [] = []
plain_faults around at (s ∷ ss) = statement_faults around at s ++ plain_faults around (passed around at s) ss

-- statements before what follows them
abbrev pub chain : Around → Point → List Statement → Body → Body
chain around at [] last = last
chain around at (s ∷ ss) last = before around at s (chain around (passed around at s) ss last)

-- ---- bodies

abbrev pub queries_named : List Statement → List Ident
queries_named [] = []
queries_named (statement.Query name guard ∷ ss) = name ∷ queries_named ss
queries_named (statement.Release ∷ ss) = queries_named ss
queries_named (statement.Let name term ∷ ss) = queries_named ss
queries_named (statement.Issue atoms ∷ ss) = queries_named ss

-- the names of the queries, in the order of the text
abbrev pub queries_within : BodyTree → List Ident
queries_within (Return plain value) = queries_named plain
queries_within (If plain test first second) = queries_named plain ++ (queries_within first ++ queries_within second)

abbrev pub names_along : List Statement → List Ident
names_along [] = []
names_along (statement.Query name guard ∷ ss) = name ∷ names_along ss
names_along (statement.Release ∷ ss) = names_along ss
names_along (statement.Let name term ∷ ss) = name ∷ names_along ss
names_along (statement.Issue atoms ∷ ss) = names_along ss

-- the names that it declares, in the order of the text: both branches share one space
abbrev pub names_within : BodyTree → List Ident
names_within (Return plain value) = names_along plain
names_within (If plain test first second) = names_along plain ++ (names_within first ++ names_within second)

-- the place at the start of the first branch
abbrev pub entered : Point → Point
entered at = record { scope = at.scope; slot = at.slot; number = at.number + 1 }

-- the place at the start of the second branch: names of the first are gone, its slots and numbers are taken
abbrev pub skipped : BodyTree → Point → Point
skipped first at = record {
  scope = at.scope;
  slot = at.slot + length (queries_within first);
  number = at.number + 1 + statement_count first;
}

abbrev pub body_faults : Around → Point → BodyTree → List Fault
body_faults around at (Return plain value) = plain_faults around at plain ++ term_faults (in_body around (behind around at plain)) value
body_faults around at (If plain test first second) =
    plain_faults around at plain ++
    (formula_faults (in_body around (behind around at plain)) test ++
    (body_faults around (entered (behind around at plain)) first ++ body_faults around (skipped first (behind around at plain)) second))

abbrev pub body_meaning : Around → Point → BodyTree → Body
body_meaning around at (Return plain value) =
    chain around at plain (body.Return (behind around at plain).number (term_meaning (in_body around (behind around at plain)) value))
body_meaning around at (If plain test first second) =
    chain around at plain
    (body.Branch
    (behind around at plain).number
    (formula_meaning (in_body around (behind around at plain)) test)
    (body_meaning around (entered (behind around at plain)) first)
    (body_meaning around (skipped first (behind around at plain)) second))

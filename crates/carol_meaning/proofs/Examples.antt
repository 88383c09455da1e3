-- Small programs with what is wrong with them, and what they stand for. All stand on line 1, so a place is its column.
use Rattle.std.proofs.Common.{◌≡◌, ℕ, false, List, [], ◌∷◌, Some, None, pos, negsuc, refl}
use Rattle.std.specs.Prelude.{codes}
use Rattle.carol_formula.specs.Claim as claim
use Rattle.carol_syntax.specs.declared.places.Ident.{Ident}
use Rattle.carol_syntax.specs.declared.cells.FieldKind.TheVariants as field_kind
use Rattle.carol_syntax.specs.declared.cells.CellDecl.{CellDecl}
use Rattle.carol_syntax.specs.declared.cells.CellDecl.TheVariants.{Field, Set}
use Rattle.carol_syntax.specs.declared.formulas.ValueDecl.{ValueDecl}
use Rattle.carol_syntax.specs.declared.formulas.ValueKind.{ValueKind}
use Rattle.carol_syntax.specs.declared.formulas.ValueKind.TheVariants.{Plain, Size}
use Rattle.carol_syntax.specs.declared.formulas.TermDecl.{TermDecl}
use Rattle.carol_syntax.specs.declared.formulas.Sign.TheVariants.{AtMost, Below, Same}
use Rattle.carol_syntax.specs.declared.bodies.Change.{Change}
use Rattle.carol_syntax.specs.declared.bodies.Change.TheVariants as change
use Rattle.carol_syntax.specs.declared.bodies.AtomDecl.{AtomDecl}
use Rattle.carol_syntax.specs.declared.bodies.Statement.TheVariants as statement
use Rattle.carol_syntax.specs.Formulas.{True, Compare}
use Rattle.carol_syntax.specs.Bodies.{BodyTree, Return, If}
use Rattle.carol_syntax.specs.Files.{OpTree}
use Rattle.carol_program.specs.Bodies as body
use Rattle.carol_meaning.specs.declared.fault.NameKind.{NameKind}
use Rattle.carol_meaning.specs.declared.fault.NameKind.TheVariants.{Twice, Unknown, WrongKind, TooWide}
use Rattle.carol_meaning.specs.declared.fault.Fault.{Fault}
use Rattle.carol_meaning.specs.Faults.{earliest}
use Rattle.carol_meaning.specs.Cells.{cell_faults}
use Rattle.carol_meaning.specs.Terms.{formula_faults, formula_meaning}
use Rattle.carol_meaning.specs.Stores.{in_invariant, in_guard}
use Rattle.carol_meaning.specs.Bodies.{Around, body_meaning}
use Rattle.carol_meaning.specs.Operations.{op_faults, start_of}

-- ---- short ways to write trees

abbrev word : List ℕ → ℕ → Ident
word w column = record { word = w; span = record { line = 1; column = column } }

abbrev fault : NameKind → ℕ → List ℕ → Fault
fault kind column name = record { kind = kind; name = name; span = record { line = 1; column = column } }

abbrev counter : Ident → CellDecl
counter name = Field (record { kind = field_kind.Counter; name = name; start = pos 0 })

abbrev flag : Ident → CellDecl
flag name = Field (record { kind = field_kind.Flag; name = name; start = pos 0 })

abbrev value : ValueKind → ℕ → List Ident → ValueDecl
value kind column parts = record { span = record { line = 1; column = column }; kind = kind; parts = parts }

-- a value with a factor, as a term of its own
abbrev times : ℕ → ValueDecl → TermDecl
times k v = record { span = v.span; products = record { minus = false; factor = Some k; value = Some v } ∷ [] }

-- a name by itself
abbrev name : List ℕ → ℕ → TermDecl
name w column = times 1 (value Plain column (word w column ∷ []))

abbrev constant : ℕ → ℕ → TermDecl
constant k column = record { span = record { line = 1; column = column }; products = record { minus = false; factor = Some k; value = None } ∷ [] }

abbrev c : List ℕ
c = codes "c"

abbrev s : List ℕ
s = codes "s"

abbrev a : List ℕ
a = codes "a"

abbrev f : List ℕ
f = codes "f"

abbrev n : List ℕ
n = codes "n"

abbrev x : List ℕ
x = codes "x"

abbrev v : List ℕ
v = codes "v"

abbrev cells : List CellDecl
cells = counter (word c 9) ∷ Set (word s 5) (word a 9 ∷ word (codes "b") 12 ∷ []) ∷ flag (word f 20) ∷ []

abbrev around : Around
around = record { cells = cells; guards = word (codes "g") 30 ∷ [] }

-- an operation with the parameter n and this body
abbrev op : BodyTree → OpTree
op b = record { name = word (codes "o") 1; params = record { name = word n 2; formula = True } ∷ []; gives = True; body = b }

abbrev issue : Ident → Change → AtomDecl
issue i by = record { path = record { parts = i ∷ [] }; change = by }

-- ---- cells

twice : cell_faults (counter (word c 9) ∷ flag (word c 20) ∷ []) ≡ fault Twice 20 c ∷ []
twice = refl

members_differ : cell_faults (Set (word s 5) (word a 9 ∷ word a 12 ∷ []) ∷ []) ≡ fault Twice 12 a ∷ []
members_differ = refl

-- ---- the invariant

size_of_a_cell : formula_faults (in_invariant cells) (Compare (times 1 (value Size 11 (word c 16 ∷ []))) Same (constant 0 21)) ≡ fault WrongKind 11 c ∷ []
size_of_a_cell = refl

a_set_by_itself : formula_faults (in_invariant cells) (Compare (name s 11) AtMost (constant 0 21)) ≡ fault WrongKind 11 s ∷ []
a_set_by_itself = refl

too_wide : formula_faults (in_invariant cells) (Compare (times 1000000001 (value Plain 22 (word c 22 ∷ []))) AtMost (constant 0 30)) ≡ fault TooWide 22 [] ∷ []
too_wide = refl

-- the size of the set s, below 2
sum_of_flags : formula_meaning (in_invariant cells) (Compare (times 1 (value Size 11 (word s 16 ∷ []))) Below (constant 2 21)) ≡ claim.Le (record { pairs = (1, pos 1) ∷ (2, pos 1) ∷ []; rest = negsuc 0 })
sum_of_flags = refl

-- ---- guards

bare : formula_faults (in_guard cells) (Compare (name c 11) AtMost (name x 21)) ≡ fault WrongKind 11 c ∷ fault Unknown 21 x ∷ []
bare = refl

-- ---- operations

-- a name of one branch, seen in the other; a name of both
branches : op_faults around (op (If [] True (Return (statement.Let (word x 40) (name n 44) ∷ []) (name x 50)) (Return (statement.Let (word x 60) (name n 64) ∷ []) (name x 70)))) ≡ fault Twice 60 x ∷ []
branches = refl

other_branch : op_faults around (op (If [] True (Return (statement.Let (word x 40) (name n 44) ∷ []) (name x 50)) (Return [] (name x 70)))) ≡ fault Unknown 70 x ∷ []
other_branch = refl

-- `let x = x;`
itself : op_faults around (op (Return (statement.Let (word x 40) (name x 44) ∷ []) (name x 50))) ≡ fault Unknown 44 x ∷ []
itself = refl

-- a term that is too wide once the name is replaced, and what uses its name
wide_name : op_faults around (op (Return (statement.Let (word x 40) (times 1000000000000 (value Plain 44 (word n 44 ∷ []))) ∷ []) (name x 50))) ≡ fault TooWide 44 [] ∷ []
wide_name = refl

-- `issue f += 1, f += 1`
flag_twice : earliest None (op_faults around (op (Return (statement.Issue (issue (word f 40) (change.Add (constant 1 45)) ∷ issue (word f 50) (change.Add (constant 1 55)) ∷ []) ∷ []) (constant 0 60)))) ≡ Some (fault WrongKind 40 f)
flag_twice = refl

-- `query v under g; let x = v.c; if true { issue c += x; return 0; } else { return x; }`
numbers : body_meaning around (start_of (op (Return [] (name n 1)))) (If (statement.Query (word v 40) (word (codes "g") 44) ∷ statement.Let (word x 50) (times 1 (value Plain 54 (word v 54 ∷ word c 56 ∷ []))) ∷ []) True (Return (statement.Issue (issue (word c 60) (change.Take (name x 64)) ∷ []) ∷ []) (constant 0 70)) (Return [] (name x 80))) ≡ body.Query 1 0 0 (body.Branch 3 claim.True (body.Issue 4 (record { cell = 0; amount = record { pairs = (64, negsuc 0) ∷ []; rest = pos 0 } } ∷ []) (body.Return 5 (record { pairs = []; rest = pos 0 }))) (body.Return 6 (record { pairs = (64, pos 1) ∷ []; rest = pos 0 })))
numbers = refl

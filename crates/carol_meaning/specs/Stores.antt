-- What a value is in the invariant, over one store, and in a guard, over two.
use Rattle.std.specs.Prelude.{ℕ, zero, suc, ◌+◌, List, [], ◌∷◌, map, ℤ, pos}
use Rattle.carol_formula.specs.Linear.{Linear, variable_of}
use Rattle.carol_syntax.specs.declared.places.Span.{Span}
use Rattle.carol_syntax.specs.declared.places.Ident.{Ident}
use Rattle.carol_syntax.specs.declared.cells.CellDecl.{CellDecl}
use Rattle.carol_syntax.specs.declared.formulas.ValueDecl.{ValueDecl}
use Rattle.carol_syntax.specs.declared.formulas.ValueKind.{ValueKind}
use Rattle.carol_syntax.specs.declared.formulas.ValueKind.TheVariants.{Plain, Here, There, Size, SizeHere, SizeThere}
use Rattle.carol_program.specs.Variables.{cell_variable, there_variable}
use Rattle.carol_meaning.specs.declared.fault.NameKind.TheVariants.{Unknown, WrongKind}
use Rattle.carol_meaning.specs.Faults.{fault_at}
use Rattle.carol_meaning.specs.declared.named.Named.{Named}
use Rattle.carol_meaning.specs.declared.named.Named.TheVariants.{Cell, Members, Missing, Misused}
use Rattle.carol_meaning.specs.Cells.{named}
use Rattle.carol_meaning.specs.Terms.{Found, Look, Worth, Wrong}

abbrev pub words : List Ident → List (List ℕ)
words parts = map (λ i. i.word) parts

-- the first name of a path
abbrev pub first_word : List Ident → List ℕ
first_word [] = []
first_word (i ∷ more) = i.word

-- the place of a path, or else the given one
abbrev pub path_span : Span → List Ident → Span
path_span span [] = span
path_span span (i ∷ more) = i.span

-- the whole value is of the wrong kind
abbrev pub wrong_kind : ValueDecl → Found
wrong_kind v = Wrong (fault_at WrongKind v.span (first_word v.parts))

-- its path names nothing
abbrev pub unknown : ValueDecl → Found
unknown v = Wrong (fault_at Unknown (path_span v.span v.parts) (first_word v.parts))

-- one for each variable, from the first on
abbrev pub ones : ℕ → ℕ → List (ℕ × ℤ)
ones first zero = []
ones first (suc count) = (first, pos 1) ∷ ones (first + 1) count

-- the sum of as many variables, from the first on
abbrev pub sum_of_variables : ℕ → ℕ → Linear
sum_of_variables first count = record { pairs = ones first count; rest = pos 0 }

-- a value that wants a cell, whose variables begin at `base`
abbrev pub cell_value : ℕ → ValueDecl → Named → Found
cell_value base v (Cell number kind) = Worth (variable_of (base + number))
cell_value base v (Members first count) = wrong_kind v
cell_value base v Missing = unknown v
cell_value base v Misused = wrong_kind v

-- a value that wants a set
abbrev pub set_value : ℕ → ValueDecl → Named → Found
set_value base v (Cell number kind) = wrong_kind v
set_value base v (Members first count) = Worth (sum_of_variables (base + first) count)
set_value base v Missing = unknown v
set_value base v Misused = wrong_kind v

-- a value that no path can be right for
abbrev pub no_value : ValueDecl → Named → Found
no_value v Missing = unknown v
no_value v found = wrong_kind v

abbrev pub path_named : List CellDecl → ValueDecl → Named
path_named cells v = named cells (words v.parts)

-- in the invariant: a cell's path, or the size of a set
abbrev pub look_one : List CellDecl → ValueKind → ValueDecl → Found
look_one cells Plain v = cell_value (cell_variable 0) v (path_named cells v)
look_one cells Size v = set_value (cell_variable 0) v (path_named cells v)
look_one cells kind v = wrong_kind v

abbrev pub in_invariant : List CellDecl → Look
in_invariant cells = record { value = λ v. look_one cells v.kind v }

-- in a guard: behind `here` or `there`
abbrev pub look_two : List CellDecl → ValueKind → ValueDecl → Found
look_two cells Here v = cell_value (cell_variable 0) v (path_named cells v)
look_two cells There v = cell_value (there_variable 0) v (path_named cells v)
look_two cells SizeHere v = set_value (cell_variable 0) v (path_named cells v)
look_two cells SizeThere v = set_value (there_variable 0) v (path_named cells v)
look_two cells Plain v = no_value v (path_named cells v)
look_two cells kind v = wrong_kind v

abbrev pub in_guard : List CellDecl → Look
in_guard cells = record { value = λ v. look_two cells v.kind v }

-- What the names of an operation stand for at a place of it, and what a value is there.
use Rattle.std.specs.Prelude.{ℕ, Bool, if◌then◌else◌, List, [], ◌∷◌, ◌++◌, Option, Some, None}
use Rattle.std.specs.Str.{bytes_eq}
use Rattle.carol_formula.specs.Linear.{Linear, variable_of}
use Rattle.carol_syntax.specs.declared.places.Ident.{Ident}
use Rattle.carol_syntax.specs.declared.cells.CellDecl.{CellDecl}
use Rattle.carol_syntax.specs.declared.formulas.ValueDecl.{ValueDecl}
use Rattle.carol_syntax.specs.declared.formulas.ValueKind.{ValueKind}
use Rattle.carol_syntax.specs.declared.formulas.ValueKind.TheVariants.{Outcome, Plain, Size}
use Rattle.carol_program.specs.Variables.{param_variable, result_variable, query_variable}
use Rattle.carol_meaning.specs.declared.meaning.Meaning.{Meaning}
use Rattle.carol_meaning.specs.declared.meaning.Meaning.TheVariants.{Parameter, Queried, Bound, Elsewhere}
use Rattle.carol_meaning.specs.Cells.{named}
use Rattle.carol_meaning.specs.Terms.{Found, Look, Worth, Nothing}
use Rattle.carol_meaning.specs.Stores.{words, wrong_kind, unknown, cell_value, set_value}

-- names with their meanings, in the order in which they were declared
abbrev pub Scope : Type 0
Scope = List (List ℕ × Meaning)

abbrev pub meaning_of : List ℕ → Scope → Option Meaning
meaning_of word [] = None
meaning_of word (entry ∷ more) = if bytes_eq word entry.0 then Some entry.1 else meaning_of word more

abbrev pub unless_known : Option Meaning → Scope → Scope → Scope
unless_known None wider scope = wider
unless_known (Some m) wider scope = scope

-- one name more; a name that is there keeps its meaning
abbrev pub declared : List ℕ → Meaning → Scope → Scope
declared word m scope = unless_known (meaning_of word scope) (scope ++ (word, m) ∷ []) scope

-- what stands behind a query's name: a cell
abbrev pub queried_cell : List CellDecl → ℕ → ValueDecl → List Ident → Found
queried_cell cells slot v [] = wrong_kind v
queried_cell cells slot v (i ∷ more) = cell_value (query_variable slot 0) v (named cells (words (i ∷ more)))

-- what stands behind a query's name in a size: a set
abbrev pub queried_set : List CellDecl → ℕ → ValueDecl → List Ident → Found
queried_set cells slot v [] = wrong_kind v
queried_set cells slot v (i ∷ more) = set_value (query_variable slot 0) v (named cells (words (i ∷ more)))

-- a value by itself, where nothing may stand behind the name
abbrev pub alone : ValueDecl → List Ident → Found → Found
alone v [] found = found
alone v (i ∷ more) found = wrong_kind v

abbrev pub bound_value : Option Linear → Found
bound_value None = Nothing
bound_value (Some t) = Worth t

abbrev pub plain_value : List CellDecl → ValueDecl → List Ident → Option Meaning → Found
plain_value cells v rest None = unknown v
plain_value cells v rest (Some (Parameter number)) = alone v rest (Worth (variable_of (param_variable number)))
plain_value cells v rest (Some (Queried slot)) = queried_cell cells slot v rest
plain_value cells v rest (Some (Bound term)) = alone v rest (bound_value term)
plain_value cells v rest (Some Elsewhere) = wrong_kind v

abbrev pub size_value : List CellDecl → ValueDecl → List Ident → Option Meaning → Found
size_value cells v rest None = unknown v
size_value cells v rest (Some (Queried slot)) = queried_set cells slot v rest
size_value cells v rest (Some m) = wrong_kind v

-- a name of the operation and what stands behind it
abbrev pub look_plain : List CellDecl → Scope → ValueDecl → List Ident → Found
look_plain cells scope v [] = wrong_kind v
look_plain cells scope v (i ∷ rest) = plain_value cells v rest (meaning_of i.word scope)

abbrev pub look_size : List CellDecl → Scope → ValueDecl → List Ident → Found
look_size cells scope v [] = wrong_kind v
look_size cells scope v (i ∷ rest) = size_value cells v rest (meaning_of i.word scope)

-- in an operation; the flag says whether `result` may stand here
abbrev pub look_in : List CellDecl → Bool → Scope → ValueKind → ValueDecl → Found
look_in cells outcome scope Plain v = look_plain cells scope v v.parts
look_in cells outcome scope Size v = look_size cells scope v v.parts
look_in cells outcome scope Outcome v = if outcome then Worth (variable_of result_variable) else wrong_kind v
look_in cells outcome scope kind v = wrong_kind v

abbrev pub in_scope : List CellDecl → Bool → Scope → Look
in_scope cells outcome scope = record { value = λ v. look_in cells outcome scope v.kind v }

-- What places and variables are called, as bytes.
use Rattle.std.specs.Prelude.{ℕ, ◌+◌, ◌-◌, ◌/◌, ◌%◌, nat_lt, Bool, true, false, if◌then◌else◌, List, [], ◌++◌, codes, slice_get, unwrap_or}
use Rattle.std.specs.Fmt.{decimal}
use Rattle.carol_program.specs.declared.names.Names.{Names}
use Rattle.carol_program.specs.declared.places.Place.{Place}
use Rattle.carol_program.specs.declared.places.Place.TheVariants.{Initial, Reflexive, Accord, Amount, Invariant, Outcome}
use Rattle.carol_program.specs.Called.{own_of, params_of, queries_of}
use Rattle.carol_program.specs.Variables.{param_variable, query_variable, store_variables, there_variable}
use Rattle.carol_obligation.specs.Decoded.{round_variable}

-- the name with this number; none has no bytes
abbrev pub name_at : List (List ℕ) → ℕ → List ℕ
name_at names number = unwrap_or (slice_get names number) []

abbrev pub op_text : Names → ℕ → List ℕ
op_text names op = unwrap_or (own_of names op) []

-- ---- places

abbrev pub way_word : Bool → List ℕ
way_word true = codes " up"
way_word false = codes " down"

-- a statement of an operation
abbrev pub statement_text : Names → ℕ → ℕ → List ℕ
statement_text names op number = op_text names op ++ (codes " " ++ decimal number)

unfoldable pub place_text : Names → Place → List ℕ
place_text names Initial = codes "initial"
place_text names (Reflexive guard) = codes "guard " ++ (name_at names.guards guard ++ codes " reflexive")
place_text names (Accord guard cell up) =
    codes "accord " ++ (name_at names.guards guard ++ (codes " " ++ (name_at names.cells cell ++ way_word up)))
place_text names (Amount op number atom) = statement_text names op number ++ (codes " amount " ++ decimal atom)
place_text names (Invariant op number) = statement_text names op number ++ codes " invariant"
place_text names (Outcome op number) = statement_text names op number ++ codes " result"

-- ---- variables

-- of a guard: a cell of the store that was read, or of the global one
abbrev pub guard_variable_text : Names → ℕ → List ℕ
guard_variable_text names v =
    if nat_lt v (there_variable 0) then codes "here " ++ name_at names.cells v
    else codes "there " ++ name_at names.cells (v - there_variable 0)

-- the number of the store, and its cell, where the variables of the stores begin with this one
abbrev pub store_of : ℕ → ℕ → ℕ
store_of first v = (v - first) / store_variables

abbrev pub cell_of : Names → ℕ → ℕ → List ℕ
cell_of names first v = name_at names.cells ((v - first) % store_variables)

-- of an operation: a cell after an effect, a parameter, a cell of a query's store, or one of the store of
-- a round, the first of which is called 1
abbrev pub op_variable_text : Names → ℕ → ℕ → List ℕ
op_variable_text names op v =
    if nat_lt v (param_variable 0) then codes "after " ++ name_at names.cells v
    else if nat_lt v (query_variable 0 0) then name_at (params_of names op) (v - param_variable 0)
    else if nat_lt v (round_variable 0 0) then name_at (queries_of names op) (store_of (query_variable 0 0) v) ++ (codes "." ++ cell_of names (query_variable 0 0) v)
    else codes "round " ++ (decimal (store_of (round_variable 0 0) v + 1) ++ (codes " " ++ cell_of names (round_variable 0 0) v))

-- what a variable is called at a place
abbrev pub variable_text : Names → Place → ℕ → List ℕ
variable_text names Initial v = name_at names.cells v
variable_text names (Reflexive guard) v = guard_variable_text names v
variable_text names (Accord guard cell up) v = guard_variable_text names v
variable_text names (Amount op number atom) v = op_variable_text names op v
variable_text names (Invariant op number) v = op_variable_text names op v
variable_text names (Outcome op number) v = op_variable_text names op v

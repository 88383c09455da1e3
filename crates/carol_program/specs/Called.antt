-- What the parts of a program are called.
use Rattle.std.specs.Prelude.{ℕ, List, [], Option, Some, None, option_map, slice_get}
use Rattle.carol_program.specs.declared.names.OpNames.{OpNames}
use Rattle.carol_program.specs.declared.names.Names.{Names}

abbrev pub own_of : Names → ℕ → Option (List ℕ)
own_of names op = option_map (λ o. o.own) (slice_get names.ops op)

abbrev pub params_at : Option OpNames → List (List ℕ)
params_at None = []
params_at (Some o) = o.params

abbrev pub queries_at : Option OpNames → List (List ℕ)
queries_at None = []
queries_at (Some o) = o.queries

-- the names of an operation's parameters
abbrev pub params_of : Names → ℕ → List (List ℕ)
params_of names op = params_at (slice_get names.ops op)

-- the names of an operation's queries
abbrev pub queries_of : Names → ℕ → List (List ℕ)
queries_of names op = queries_at (slice_get names.ops op)

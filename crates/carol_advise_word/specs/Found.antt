-- Which operation a word names.
use Rattle.std.specs.Prelude.{ℕ, ◌+◌, bytes_eq, if◌then◌else◌, List, [], ◌∷◌, Option, Some, None}
use Rattle.carol_program.specs.declared.names.OpNames.{OpNames}
use Rattle.carol_program.specs.declared.names.Names.{Names}

-- the number of the first of these operations with the name, where the first of them has this number
abbrev pub named_from : ℕ → List OpNames → List ℕ → Option ℕ
named_from number [] name = None
named_from number (op ∷ ops) name = if bytes_eq op.own name then Some number else named_from (number + 1) ops name

-- the number of the operation with the name, if there is one
abbrev pub op_named : Names → List ℕ → Option ℕ
op_named names name = named_from 0 names.ops name

-- What a collector is handed.
use Rattle.std.specs.Prelude.{List, ◌++◌}
use Rattle.carol_formula.specs.Claim.{Claim}
use Rattle.carol_program.specs.declared.places.Place.{Place}

-- whatever it held before, it then holds these behind that
abbrev pub Passes : {S : Type 0} → (S → List (Place × Claim) → Type 0) → S → S → List (Place × Claim) → Type 0
Passes holds old new added = (taken : List (Place × Claim)) → holds old taken → holds new (taken ++ added)

-- How a bar is looked for, row by row.
use Rattle.std.specs.Prelude.{◌≡◌, ℕ, ◌<◌, Bool, true, false, not, ◌&&◌, List, [], ◌∷◌, Option, Some, None, get_or}
use Rattle.carol_store.specs.declared.effect.Atom.{Atom}
use Rattle.carol_program.specs.Accords.{Accords}
use Rattle.carol_program.specs.Admitting.{admits}

-- the guard is granted in the row, and its accord lacks the effect
abbrev pub is_bar : Accords → List Bool → List Atom → ℕ → Bool
is_bar accords live effect guard = get_or live guard false && not (admits accords guard effect)

-- the first number that passes the test, if one does
abbrev pub IsFirst : (ℕ → Bool) → Option ℕ → Type 0
IsFirst passes None = (i : ℕ) → passes i ≡ false
IsFirst passes (Some n) = (passes n ≡ true) × ((i : ℕ) → i < n → passes i ≡ false)

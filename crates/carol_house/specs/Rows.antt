-- Tables with a row for each replica.
use Rattle.std.specs.Prelude.{◌≡◌, ℕ, ◌<◌, Bool, List, [], length, get_or}
use Rattle.carol_program.specs.Limits.{most_guards, most_replicas}

-- eight rows of eight
pub record IsSquare (rows : List (List Bool)) : Type 0 where
  pub count : length rows ≡ most_replicas
  pub each : (r : ℕ) → r < most_replicas → length (get_or rows r []) ≡ most_replicas

-- eight rows of sixteen
pub record IsWide (rows : List (List ℕ)) : Type 0 where
  pub count : length rows ≡ most_replicas
  pub each : (r : ℕ) → r < most_replicas → length (get_or rows r []) ≡ most_guards

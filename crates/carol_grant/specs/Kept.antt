-- What a table of grants keeps beside the grants.
use Rattle.std.specs.Prelude.{◌≡◌, ℕ, ◌<◌, ◌≤◌, Bool, true, false, ◌&&◌, List, length, map, replicate, Option, Some, None, slice_get, get_or}
use Rattle.std.specs.List.{AllByRecursion}
use Rattle.carol_store.specs.declared.shape.CellKind.{CellKind}
use Rattle.carol_store.specs.Kinds.{can_go}
use Rattle.carol_store.specs.declared.short_list.TheConstants.{MOST_CELLS}
use Rattle.carol_program.specs.Accords.{Accords}
use Rattle.carol_grant.specs.declared.tally.Tally.{Tally}
use Rattle.carol_grant.specs.declared.row.Row.{Row}
use Rattle.carol_program.specs.declared.limits.TheConstants.{MOST_GUARDS, MOST_SESSIONS}
use Rattle.carol_grant.specs.Counts.{count_row, count_rows}
use Rattle.carol_grant.specs.Grants.{lacks}
use Rattle.carol_grant.specs.Tallies.{IsTally, tally_at}

-- the cell is there, and can go this way
abbrev pub goes : Option CellKind → Bool → Bool
goes None up = false
goes (Some kind) up = can_go kind up

-- the shape has the way, and the guard's accord lacks it
abbrev pub lacks_way : Accords → ℕ → Bool → ℕ → Bool
lacks_way accords cell up guard =
    goes (slice_get accords.kinds cell) up && lacks accords cell up guard

-- the grants of each session
abbrev pub lives : List Row → List (List Bool)
lives rows = map (λ row. row.live) rows

-- nothing is granted
pub record IsBare (row : Row) : Type 0 where
  pub live : row.live ≡ replicate MOST_GUARDS false
  pub tally : IsTally row.tally
  pub counts : (cell : ℕ) (up : Bool) → tally_at row.tally cell up ≡ 0

-- the tally counts the session's grants
pub record IsRow (accords : Accords) (row : Row) : Type 0 where
  pub wide : length row.live ≡ MOST_GUARDS
  pub within : (guard : ℕ) → get_or row.live guard false ≡ true → guard < accords.guards
  pub tally : IsTally row.tally
  pub counts : (cell : ℕ) (up : Bool) →
      tally_at row.tally cell up ≡ count_row (lacks_way accords cell up) 0 row.live

-- each row counts its own grants, and the total counts all of them
pub record IsKept
    (kinds : List CellKind) (accords : Accords) (guards : ℕ) (rows : List Row) (total : Tally)
    : Type 0 where
  pub shape : accords.kinds ≡ kinds
  pub few_cells : length kinds ≤ MOST_CELLS
  pub table : accords.guards ≡ guards
  pub few_guards : guards ≤ MOST_GUARDS
  pub few_sessions : length rows ≤ MOST_SESSIONS
  pub each : AllByRecursion (IsRow accords) rows
  pub tally : IsTally total
  pub counts : (cell : ℕ) (up : Bool) →
      tally_at total cell up ≡ count_rows (lacks_way accords cell up) (lives rows)

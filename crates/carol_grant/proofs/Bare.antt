-- Tables in which nothing is granted.
use Rattle.std.proofs.Common.{◌≡◌, ℕ, ◌≤◌, zero, suc, Bool, false, List, [], ◌∷◌, length, get_or, refl, sym, ◌∙◌, arith}
use Rattle.std.specs.List.{AllByRecursion}
use Rattle.std.proofs.lemmas.Bool.{false≢true}
use Rattle.std.proofs.lemmas.List.{length-replicate}
use Rattle.carol_store.specs.declared.shape.CellKind.{CellKind}
use Rattle.carol_store.specs.declared.short_list.TheConstants.{MOST_CELLS}
use Rattle.carol_program.specs.Accords.{Accords}
use Rattle.carol_grant.specs.declared.row.Row.{Row}
use Rattle.carol_program.specs.declared.limits.TheConstants.{MOST_GUARDS, MOST_SESSIONS}
use Rattle.carol_grant.specs.declared.tally.Tally.{Tally}
use Rattle.carol_grant.specs.Counts.{count_row, count_rows}
use Rattle.carol_grant.specs.Kept.{IsBare, IsKept, IsRow, lacks_way, lives}
use Rattle.carol_grant.specs.Tallies.{IsTally, tally_at}
use Rattle.carol_grant.proofs.Counting.{count_row-none}
use Rattle.carol_grant.proofs.Lists.{get_or-false}

-- nothing is granted in a bare row
pub bare_live : (row : Row) (guard : ℕ) → IsBare row → get_or row.live guard false ≡ false
bare_live row guard bare = rw bare.live (get_or-false MOST_GUARDS guard)

pub bare_count : (row : Row) (passes : ℕ → Bool) → IsBare row → count_row passes 0 row.live ≡ 0
bare_count row passes bare = rw bare.live (count_row-none passes 0 MOST_GUARDS)

pub IsRow-bare : (accords : Accords) (row : Row) → IsBare row → IsRow accords row
IsRow-bare accords row bare = record {
  wide = rw bare.live (length-replicate MOST_GUARDS false);
  within = λ guard h. absurd (false≢true (sym (bare_live row guard bare) ∙ h));
  tally = bare.tally;
  counts = λ cell up. bare.counts cell up ∙ sym (bare_count row (lacks_way accords cell up) bare);
}

pub IsRow-all_bare : (accords : Accords) (rows : List Row) → AllByRecursion IsBare rows → AllByRecursion (IsRow accords) rows
IsRow-all_bare accords [] bare = tt
IsRow-all_bare accords (row ∷ rows) bare = (IsRow-bare accords row bare.0, IsRow-all_bare accords rows bare.1)

-- nothing is counted in bare rows
pub count_rows-bare : (passes : ℕ → Bool) (rows : List Row) → AllByRecursion IsBare rows → count_rows passes (lives rows) ≡ 0
count_rows-bare passes [] bare = refl
count_rows-bare passes (row ∷ rows) bare = omega (arith, bare_count row passes bare.0, count_rows-bare passes rows bare.1)

-- nor is anything granted
pub is_granted-bare : (rows : List Row) (session guard : ℕ) → AllByRecursion IsBare rows → get_or (get_or (lives rows) session []) guard false ≡ false
is_granted-bare [] session guard bare = refl
is_granted-bare (row ∷ rows) zero guard bare = bare_live row guard bare.0
is_granted-bare (row ∷ rows) (suc session) guard bare = is_granted-bare rows session guard bare.1

pub IsKept-bare : (kinds : List CellKind) (accords : Accords) (guards : ℕ) (rows : List Row) (total : Tally) → accords.kinds ≡ kinds → length kinds ≤ MOST_CELLS → accords.guards ≡ guards → guards ≤ MOST_GUARDS → length rows ≤ MOST_SESSIONS → AllByRecursion IsBare rows → IsTally total → ((cell : ℕ) (up : Bool) → tally_at total cell up ≡ 0) → IsKept kinds accords guards rows total
IsKept-bare kinds accords guards rows total shape few_cells table few_guards few_sessions bare tally none = record {
  shape = shape;
  few_cells = few_cells;
  table = table;
  few_guards = few_guards;
  few_sessions = few_sessions;
  each = IsRow-all_bare accords rows bare;
  tally = tally;
  counts = λ cell up. none cell up ∙ sym (count_rows-bare (lacks_way accords cell up) rows bare);
}

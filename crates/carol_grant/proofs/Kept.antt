-- What is kept beside the grants, after each change of them.
use Rattle.std.proofs.Common.{◌≡◌, ◌≢◌, ℕ, ◌+◌, ◌*◌, ◌<◌, ◌≤◌, Bool, true, false, eqb, List, [], ◌∷◌, length, set, get_or, Some, inl, inr, refl, sym, ◌∙◌, arith}
use Rattle.std.specs.Prelude.{if◌then◌else◌, slice_get}
use Rattle.std.specs.List.{AllByRecursion}
use Rattle.std.proofs.Math.ListN.{length-set}
use Rattle.std.proofs.lemmas.Bool.{cases_eq, eq-eqb, ne_eqb}
use Rattle.std.proofs.lemmas.List.{get_or-set_same, get_or-set_other, length-map, map-set}
use Rattle.std.proofs.lemmas.Option.{slice_get-map, slice_get_within, slice_get_read, get_or_from_slice_get}
use Rattle.carol_store.specs.declared.shape.CellKind.{CellKind}
use Rattle.carol_program.specs.Accords.{Accords}
use Rattle.carol_grant.specs.declared.row.Row.{Row}
use Rattle.carol_program.specs.declared.limits.TheConstants.{MOST_GUARDS, MOST_SESSIONS}
use Rattle.carol_grant.specs.declared.tally.Lacking.{Lacking}
use Rattle.carol_grant.specs.declared.tally.Tally.{Tally}
use Rattle.carol_grant.specs.Grants.{Closes, GrantsOne}
use Rattle.carol_grant.specs.Kept.{IsBare, IsKept, IsRow, lacks_way, lives}
use Rattle.carol_grant.specs.Tallies.{IsTally, lacking_at, tally_at}
use Rattle.carol_grant.proofs.Bare.{IsRow-bare, bare_count, bare_live}
use Rattle.carol_grant.proofs.Counting.{count_row-few, count_row-set, count_rows-few, count_rows-set}
use Rattle.carol_grant.proofs.Lists.{AllByRecursion-at, AllByRecursion-set, get_or-flag}

-- the grants of a session
pub lives-at : (rows : List Row) (s : ℕ) (row : Row) → slice_get rows s ≡ Some row → slice_get (lives rows) s ≡ Some row.live
lives-at rows s row at = slice_get-map (λ (row : Row). row.live) rows s ∙ rw at refl

-- a row that was read, where there are as many sessions
pub row_read : (rows : List Row) (s : ℕ) (row : Row) → s < length (lives rows) → row ≡ get_or rows s row → slice_get rows s ≡ Some row
row_read rows s row inside is =
    slice_get_read rows (length rows) s row refl (rw (length-map rows (λ (row : Row). row.live)) at inside) is

lives-get : (rows : List Row) (s : ℕ) (row : Row) → slice_get rows s ≡ Some row → get_or (lives rows) s [] ≡ row.live
lives-get rows s row at = get_or_from_slice_get (lives rows) s row.live [] (lives-at rows s row at)

-- whether a guard is granted, by its row
pub granted-read : (rows : List Row) (s : ℕ) (row : Row) (guard : ℕ) → slice_get rows s ≡ Some row → get_or (get_or (lives rows) s []) guard false ≡ get_or row.live guard false
granted-read rows s row guard at = rw (lives-get rows s row at) refl

lives-set : (rows : List Row) (s : ℕ) (new : Row) → lives (set rows s new) ≡ set (lives rows) s new.live
lives-set rows s new = map-set (λ (row : Row). row.live) rows s new

-- after a write of a row
lives-here : (rows : List Row) (s : ℕ) (old new : Row) → slice_get rows s ≡ Some old → get_or (lives (set rows s new)) s [] ≡ new.live
lives-here rows s old new at =
    let inside : s < length (lives rows) = rw (length-map rows (λ (row : Row). row.live)) (slice_get_within rows s old at)
    in rw (lives-set rows s new) (get_or-set_same (lives rows) s new.live [] inside)

lives-there : (rows : List Row) (s : ℕ) (new : Row) (t : ℕ) → s ≢ t → get_or (lives (set rows s new)) t [] ≡ get_or (lives rows) t []
lives-there rows s new t apart =
    rw (lives-set rows s new) (get_or-set_other (lives rows) s t new.live [] (λ e. apart (sym e)))

-- how many rows there are
length-lives : (rows : List Row) (s : ℕ) (new : Row) → length (lives (set rows s new)) ≡ length (lives rows)
length-lives rows s new = rw (lives-set rows s new) (length-set (lives rows) s new.live)

-- the counts stay low
pub row_room : (accords : Accords) (row : Row) (cell : ℕ) (up : Bool) → IsRow accords row → tally_at row.tally cell up ≤ MOST_GUARDS
row_room accords row cell up is =
    omega (arith, is.counts cell up, count_row-few (lacks_way accords cell up) 0 row.live, is.wide)

all_wide : (accords : Accords) (rows : List Row) → AllByRecursion (IsRow accords) rows → AllByRecursion (λ row. length row ≤ MOST_GUARDS) (lives rows)
all_wide accords [] each = tt
all_wide accords (row ∷ rows) each = (omega (arith, (each.0).wide), all_wide accords rows each.1)

pub total_room : (kinds : List CellKind) (accords : Accords) (guards : ℕ) (rows : List Row) (total : Tally) (cell : ℕ) (up : Bool) → IsKept kinds accords guards rows total → tally_at total cell up ≤ MOST_GUARDS * MOST_SESSIONS
total_room kinds accords guards rows total cell up kept =
    omega (arith, kept.counts cell up, kept.few_sessions, length-map rows (λ (row : Row). row.live), count_rows-few (lacks_way accords cell up) MOST_GUARDS (lives rows) (all_wide accords rows kept.each))

-- one more grant was counted
pub one_more : (accords : Accords) (guard : ℕ) (lacking : Lacking) (old new : Tally) → ((cell : ℕ) (up : Bool) → lacking_at lacking cell up ≡ lacks_way accords cell up guard) → ((cell : ℕ) (up : Bool) → tally_at new cell up ≡ (if lacking_at lacking cell up then 1 else 0) + tally_at old cell up) → (cell : ℕ) (up : Bool) → tally_at new cell up ≡ (if lacks_way accords cell up guard then 1 else 0) + tally_at old cell up
one_more accords guard lacking old new ways more cell up = rw (← ways cell up) (more cell up)

-- a row in which one more guard is granted
IsRow-grant : (accords : Accords) (row : Row) (guard : ℕ) (tally : Tally) → IsRow accords row → guard < accords.guards → accords.guards ≤ MOST_GUARDS → get_or row.live guard false ≡ false → IsTally tally → ((cell : ℕ) (up : Bool) → tally_at tally cell up ≡ (if lacks_way accords cell up guard then 1 else 0) + tally_at row.tally cell up) → IsRow accords (record { live = set row.live guard true; tally = tally })
IsRow-grant accords row guard tally is inside few fresh size more = record {
  wide = length-set row.live guard true ∙ is.wide;
  within = λ g h. elim (cases_eq guard g) [
    | inl e ↦ rw (← e) inside
    | inr apart ↦ is.within g (sym (get_or-set_other row.live guard g true false (λ e. apart (sym e))) ∙ h)
  ];
  tally = size;
  counts = λ cell up.
      let wide : guard < length row.live = omega (arith, is.wide)
      in omega (arith, more cell up, is.counts cell up, count_row-set (lacks_way accords cell up) 0 row.live guard guard (omega arith) wide fresh);
}

-- the table after a grant
pub IsKept-grant : (kinds : List CellKind) (accords : Accords) (guards : ℕ) (rows : List Row) (total : Tally) (session guard : ℕ) (row : Row) (tally sum : Tally) → IsKept kinds accords guards rows total → slice_get rows session ≡ Some row → guard < accords.guards → get_or row.live guard false ≡ false → IsTally tally → ((cell : ℕ) (up : Bool) → tally_at tally cell up ≡ (if lacks_way accords cell up guard then 1 else 0) + tally_at row.tally cell up) → IsTally sum → ((cell : ℕ) (up : Bool) → tally_at sum cell up ≡ (if lacks_way accords cell up guard then 1 else 0) + tally_at total cell up) → IsKept kinds accords guards (set rows session (record { live = set row.live guard true; tally = tally })) sum
IsKept-grant kinds accords guards rows total session guard row tally sum kept at inside fresh size more sizes mores =
    let now : Row = record { live = set row.live guard true; tally = tally }
    in let is : IsRow accords row = AllByRecursion-at (IsRow accords) rows session row kept.each at
    in record {
      shape = kept.shape;
      few_cells = kept.few_cells;
      table = kept.table;
      few_guards = kept.few_guards;
      few_sessions = rw (length-set rows session now) kept.few_sessions;
      each = AllByRecursion-set (IsRow accords) rows session now kept.each (IsRow-grant accords row guard tally is inside (omega (arith, kept.table, kept.few_guards)) fresh size more);
      tally = sizes;
      counts = λ cell up.
          let wide : guard < length row.live = omega (arith, is.wide, kept.table, kept.few_guards)
          in rw (lives-set rows session now)
          (omega (arith, mores cell up, kept.counts cell up, count_row-set (lacks_way accords cell up) 0 row.live guard guard (omega arith) wide fresh, count_rows-set (lacks_way accords cell up) (lives rows) session row.live now.live (lives-at rows session row at)));
    }

pub GrantsOne-set : (accords : Accords) (rows : List Row) (session guard : ℕ) (row : Row) (tally : Tally) → slice_get rows session ≡ Some row → guard < length row.live → GrantsOne (record { accords = accords; live = lives rows }) session guard (record { accords = accords; live = lives (set rows session (record { live = set row.live guard true; tally = tally })) })
GrantsOne-set accords rows session guard row tally at inside =
    let now : Row = record { live = set row.live guard true; tally = tally }
    in record {
      each = λ s g. elim (cases_eq session s) [
        | inl e ↦
            let hit : eqb session s ≡ true = eq-eqb session s e
            in rw (hit, ← e, lives-here rows session row now at, lives-get rows session row at) (get_or-flag row.live guard g inside)
        | inr apart ↦
            let miss : eqb session s ≡ false = ne_eqb session s apart
            in rw (miss, lives-there rows session now s apart) refl
      ];
      accords = refl;
      count = length-lives rows session now;
    }

-- the table after a close
pub row_covered : (kinds : List CellKind) (accords : Accords) (guards : ℕ) (rows : List Row) (total : Tally) (session : ℕ) (row : Row) (cell : ℕ) (up : Bool) → IsKept kinds accords guards rows total → slice_get rows session ≡ Some row → tally_at row.tally cell up ≤ tally_at total cell up
row_covered kinds accords guards rows total session row cell up kept at =
    let is : IsRow accords row = AllByRecursion-at (IsRow accords) rows session row kept.each at
    in omega (arith, kept.counts cell up, is.counts cell up, count_rows-set (lacks_way accords cell up) (lives rows) session row.live [] (lives-at rows session row at))

pub IsKept-close : (kinds : List CellKind) (accords : Accords) (guards : ℕ) (rows : List Row) (total : Tally) (session : ℕ) (row bare : Row) (sum : Tally) → IsKept kinds accords guards rows total → slice_get rows session ≡ Some row → IsBare bare → IsTally sum → ((cell : ℕ) (up : Bool) → tally_at sum cell up + tally_at row.tally cell up ≡ tally_at total cell up) → IsKept kinds accords guards (set rows session bare) sum
IsKept-close kinds accords guards rows total session row bare sum kept at none size fewer =
    let is : IsRow accords row = AllByRecursion-at (IsRow accords) rows session row kept.each at
    in record {
      shape = kept.shape;
      few_cells = kept.few_cells;
      table = kept.table;
      few_guards = kept.few_guards;
      few_sessions = rw (length-set rows session bare) kept.few_sessions;
      each = AllByRecursion-set (IsRow accords) rows session bare kept.each (IsRow-bare accords bare none);
      tally = size;
      counts = λ cell up.
          rw (lives-set rows session bare)
          (omega (arith, fewer cell up, kept.counts cell up, is.counts cell up, bare_count bare (lacks_way accords cell up) none, count_rows-set (lacks_way accords cell up) (lives rows) session row.live bare.live (lives-at rows session row at)));
    }

pub Closes-set : (accords : Accords) (rows : List Row) (session : ℕ) (row bare : Row) → slice_get rows session ≡ Some row → IsBare bare → Closes (record { accords = accords; live = lives rows }) session (record { accords = accords; live = lives (set rows session bare) })
Closes-set accords rows session row bare at none = record {
  each = λ s g. elim (cases_eq session s) [
    | inl e ↦
        let hit : eqb session s ≡ true = eq-eqb session s e
        in rw (hit, ← e, lives-here rows session row bare at) (bare_live bare g none)
    | inr apart ↦
        let miss : eqb session s ≡ false = ne_eqb session s apart
        in rw (miss, lives-there rows session bare s apart) refl
  ];
  accords = refl;
  count = length-lives rows session bare;
}

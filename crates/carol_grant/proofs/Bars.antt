-- What the counts and a search say of bars.
use Rattle.std.proofs.Common.{◌≡◌, ◌≢◌, ℕ, ◌+◌, ◌<◌, ◌≤◌, zero, suc, Bool, true, false, not, eqb, ◌&&◌, List, [], ◌∷◌, length, get_or, Some, inl, inr, refl, sym, ◌∙◌, arith}
use Rattle.std.specs.Prelude.{if◌then◌else◌, slice_get}
use Rattle.std.proofs.lemmas.Bool.{cases_eq, eqb-true, false≢true, not-false}
use Rattle.carol_store.specs.declared.direction.Direction.{Direction}
use Rattle.carol_store.specs.declared.effect.Atom.{Atom}
use Rattle.carol_store.specs.Directions.{directions}
use Rattle.carol_program.specs.Accords.{Accords, AreWays, entry_of}
use Rattle.carol_program.specs.Admitting.{admits, admits_all, is_yes}
use Rattle.carol_program.proofs.Directions.{directions_are_ways}
use Rattle.carol_grant.specs.declared.row.Row.{Row}
use Rattle.carol_grant.specs.declared.tally.Tally.{Tally}
use Rattle.carol_grant.specs.Bars.{is_bar}
use Rattle.carol_grant.specs.Counts.{count_row, count_rows}
use Rattle.carol_grant.specs.Kept.{IsRow, lacks_way, lives}
use Rattle.carol_grant.specs.Tallies.{agrees, is_clear, tally_at}
use Rattle.carol_grant.proofs.Ways.{lacks_way-is}

-- a way that is not lacking makes no difference
pub admits_step : (accords : Accords) (guard : ℕ) (d : Direction) (ways : List Direction) → AreWays accords.kinds (d ∷ ways) → lacks_way accords d.cell d.up guard ≡ false → is_yes (entry_of accords guard d.cell d.up) ≡ true
admits_step accords guard d ways are free =
    not-false (is_yes (entry_of accords guard d.cell d.up)) (sym (lacks_way-is accords d.cell d.up guard are.0) ∙ free)

-- both tests hold
both : (a b : Bool) → (a && b) ≡ true → (a ≡ true) × (b ≡ true)
both true b h = (refl, h)
both false b h = absurd (false≢true h)

-- a guard that is granted and does not bar admits
pub not_barring : (live admitted : Bool) → (live && not admitted) ≡ false → live ≡ true → admitted ≡ true
not_barring true admitted h granted = not-false admitted h
not_barring false admitted h granted = absurd (false≢true granted)

-- where a guard is granted, the row is there
pub granted-row : (rows : List (List Bool)) (s g : ℕ) → get_or (get_or rows s []) g false ≡ true → slice_get rows s ≡ Some (get_or rows s [])
granted-row [] s g h = absurd (false≢true h)
granted-row (row ∷ rows) zero g h = refl
granted-row (row ∷ rows) (suc s) g h = granted-row rows s g h

-- the rows before this one have no bar, and this one has none or is the session's own
pub scan_next : (accords : Accords) (rows : List Row) (effect : List Atom) (session t : ℕ) → ((s g : ℕ) → s < t → s ≢ session → get_or (get_or (lives rows) s []) g false ≡ true → admits accords g effect ≡ true) → ((g : ℕ) → t ≢ session → get_or (get_or (lives rows) t []) g false ≡ true → admits accords g effect ≡ true) → (s g : ℕ) → s < t + 1 → s ≢ session → get_or (get_or (lives rows) s []) g false ≡ true → admits accords g effect ≡ true
scan_next accords rows effect session t before here s g low apart granted = elim (cases_eq s t) [
  | inl e ↦ here g (rw e at apart) (rw e at granted)
  | inr other ↦ before s g (omega arith) apart granted
]

-- a row that was looked through
pub scan_row : (accords : Accords) (rows : List Row) (effect : List Atom) (t : ℕ) (d : Row) → t < length rows → ((g : ℕ) → is_bar accords (get_or rows t d).live effect g ≡ false) → (g : ℕ) → get_or (get_or (lives rows) t []) g false ≡ true → admits accords g effect ≡ true
scan_row accords rows effect t d inside none g granted =
    not_barring (get_or (get_or rows t d).live g false) (admits accords g effect) (none g) (rw (lives-or rows t d inside) at granted)
  where
    lives-or : (rows : List Row) (t : ℕ) (d : Row) → t < length rows → get_or (lives rows) t [] ≡ (get_or rows t d).live
    lives-or [] t d inside = absurd (omega arith)
    lives-or (row ∷ rows) zero d inside = refl
    lives-or (row ∷ rows) (suc t) d inside = lives-or rows t d (omega arith)

module _ (passes : ℕ → Bool) where
  -- one row is counted in all
  count_rows-one : (rows : List (List Bool)) (s : ℕ) (row : List Bool) → slice_get rows s ≡ Some row → count_row passes 0 row ≤ count_rows passes rows
  count_rows-one [] s row at = absurd (cc)
  count_rows-one (first ∷ rows) zero row at = let e : first ≡ row = cc in rw e (omega arith)
  count_rows-one (first ∷ rows) (suc s) row at = omega (arith, count_rows-one rows s row at)

  -- two different rows are counted both
  count_rows-two : (rows : List (List Bool)) (s t : ℕ) (own other : List Bool) → s ≢ t → slice_get rows s ≡ Some own → slice_get rows t ≡ Some other → count_row passes 0 own + count_row passes 0 other ≤ count_rows passes rows
  count_rows-two [] s t own other apart here there = absurd (cc)
  count_rows-two (row ∷ rows) zero zero own other apart here there = absurd (apart refl)
  count_rows-two (row ∷ rows) zero (suc t) own other apart here there =
      let e : row ≡ own = cc in rw e (omega (arith, count_rows-one rows t other there))
  count_rows-two (row ∷ rows) (suc s) zero own other apart here there =
      let e : row ≡ other = cc in rw e (omega (arith, count_rows-one rows s own here))
  count_rows-two (row ∷ rows) (suc s) (suc t) own other apart here there =
      omega (arith, count_rows-two rows s t own other (λ e. apart (omega arith)) here there)

  -- where none counts, no guard that is granted passes
  count_row-zero : (first : ℕ) (row : List Bool) (i at : ℕ) → at ≡ first + i → count_row passes first row ≡ 0 → get_or row i false ≡ true → passes at ≡ false
  count_row-zero first [] i at e none granted = absurd (false≢true granted)
  count_row-zero first (live ∷ row) zero at e none granted =
      let here : at ≡ first = omega arith
      in rw here (counts_not (passes first) (count_row passes (first + 1) row) (rw granted at none))
    where
      counts_not : (b : Bool) (n : ℕ) → (if b then 1 else 0) + n ≡ 0 → b ≡ false
      counts_not true n h = absurd (omega arith)
      counts_not false n h = refl
  count_row-zero first (live ∷ row) (suc i) at e none granted =
      count_row-zero (first + 1) row i at (omega arith) (omega arith) granted

-- where all grants that lack a way are the session's own, no other session's grant lacks it
no_foreign : (passes : ℕ → Bool) (rows : List (List Bool)) (s t g : ℕ) (own : List Bool) → slice_get rows s ≡ Some own → t ≢ s → count_row passes 0 own ≡ count_rows passes rows → get_or (get_or rows t []) g false ≡ true → passes g ≡ false
no_foreign passes rows s t g own here apart all granted =
    let other = get_or rows t []
    in let two = count_rows-two passes rows s t own other (λ e. apart (sym e)) here (granted-row rows t g granted)
    in count_row-zero passes 0 other g g (omega arith) (omega (arith, two, all)) granted

-- where a row's tally has none for the ways, it has no bar
clear_admits : (accords : Accords) (row : Row) (ways : List Direction) (g : ℕ) → IsRow accords row → AreWays accords.kinds ways → is_clear row.tally ways ≡ true → get_or row.live g false ≡ true → admits_all accords g ways ≡ true
clear_admits accords row [] g is are clear granted = refl
clear_admits accords row (d ∷ ways) g is are clear granted =
    let tests = both (eqb (tally_at row.tally d.cell d.up) 0) (is_clear row.tally ways) clear
    in let none : count_row (lacks_way accords d.cell d.up) 0 row.live ≡ 0 =
    sym (is.counts d.cell d.up) ∙ eqb-true (tally_at row.tally d.cell d.up) 0 tests.0
    in let free = count_row-zero (lacks_way accords d.cell d.up) 0 row.live g g (omega arith) none granted
    in rw (admits_step accords g d ways are free) (clear_admits accords row ways g is are.1 tests.1 granted)

pub clear-none : (accords : Accords) (row : Row) (effect : List Atom) (g : ℕ) → IsRow accords row → is_clear row.tally (directions accords.kinds effect) ≡ true → is_bar accords row.live effect g ≡ false
clear-none accords row effect g is clear =
    no_bar (get_or row.live g false) (admits accords g effect) (clear_admits accords row (directions accords.kinds effect) g is (directions_are_ways accords.kinds effect) clear)
  where
    no_bar : (live admitted : Bool) → (live ≡ true → admitted ≡ true) → (live && not admitted) ≡ false
    no_bar true admitted h = rw (h refl) refl
    no_bar false admitted h = refl

-- where the session's tally agrees with the total, no other session's grant bars
pub agrees-free : (accords : Accords) (rows : List (List Bool)) (s t g : ℕ) (own : List Bool) (tally total : Tally) (ways : List Direction) → slice_get rows s ≡ Some own → t ≢ s → ((cell : ℕ) (up : Bool) → tally_at tally cell up ≡ count_row (lacks_way accords cell up) 0 own) → ((cell : ℕ) (up : Bool) → tally_at total cell up ≡ count_rows (lacks_way accords cell up) rows) → AreWays accords.kinds ways → agrees tally total ways ≡ true → get_or (get_or rows t []) g false ≡ true → admits_all accords g ways ≡ true
agrees-free accords rows s t g own tally total [] here apart counts sums are same granted = refl
agrees-free accords rows s t g own tally total (d ∷ ways) here apart counts sums are same granted =
    let tests = both (eqb (tally_at tally d.cell d.up) (tally_at total d.cell d.up)) (agrees tally total ways) same
    in let all : count_row (lacks_way accords d.cell d.up) 0 own ≡ count_rows (lacks_way accords d.cell d.up) rows =
    sym (counts d.cell d.up) ∙ eqb-true (tally_at tally d.cell d.up) (tally_at total d.cell d.up) tests.0 ∙ sums d.cell d.up
    in let free = no_foreign (lacks_way accords d.cell d.up) rows s t g own here apart all granted
    in rw (admits_step accords g d ways are free)
    (agrees-free accords rows s t g own tally total ways here apart counts sums are.1 tests.1 granted)

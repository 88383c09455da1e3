-- Which ways there are.
use Rattle.std.proofs.Common.{◌≡◌, ℕ, ◌<◌, ◌≤◌, zero, suc, Bool, true, false, ◌&&◌, List, [], ◌∷◌, length, ℤ, Option, Some, None, refl, arith}
use Rattle.std.specs.Prelude.{slice_get}
use Rattle.std.proofs.lemmas.Bool.{false≢true}
use Rattle.std.proofs.lemmas.Option.{slice_get_past}
use Rattle.carol_store.specs.declared.shape.CellKind.{CellKind}
use Rattle.carol_store.specs.declared.short_list.TheConstants.{MOST_CELLS}
use Rattle.carol_store.specs.declared.direction.Direction.{Direction}
use Rattle.carol_store.specs.declared.effect.Atom.{Atom}
use Rattle.carol_store.specs.Directions.{directions}
use Rattle.carol_store.specs.Kinds.{can_go}
use Rattle.carol_program.specs.Accords.{Accords, AreWays, HasWay}
use Rattle.carol_program.proofs.Directions.{directions_are_ways}
use Rattle.carol_grant.specs.Counts.{count_rows}
use Rattle.carol_grant.specs.Grants.{lacks}
use Rattle.carol_grant.specs.Kept.{goes, lacks_way}
use Rattle.carol_grant.specs.Tallies.{AreCells}

-- the shape has a way that its cell can go
pub goes-way : (kinds : List CellKind) (cell : ℕ) (up : Bool) → goes (slice_get kinds cell) up ≡ true → HasWay kinds cell up
goes-way [] cell up h = absurd (false≢true h)
goes-way (kind ∷ kinds) zero up h = h
goes-way (kind ∷ kinds) (suc cell) up h = goes-way kinds cell up h

-- a cell can go the ways that the shape has
pub HasWay-goes : (kinds : List CellKind) (cell : ℕ) (up : Bool) → HasWay kinds cell up → goes (slice_get kinds cell) up ≡ true
HasWay-goes [] cell up h = absurd h
HasWay-goes (kind ∷ kinds) zero up h = h
HasWay-goes (kind ∷ kinds) (suc cell) up h = HasWay-goes kinds cell up h

-- its cell is there
pub HasWay-inside : (kinds : List CellKind) (cell : ℕ) (up : Bool) → HasWay kinds cell up → cell < length kinds
HasWay-inside [] cell up h = absurd h
HasWay-inside (kind ∷ kinds) zero up h = omega arith
HasWay-inside (kind ∷ kinds) (suc cell) up h = omega (arith, HasWay-inside kinds cell up h)

-- past the shape's cells there is no way that could be lacking
pub lacks_way-past : (accords : Accords) (cell : ℕ) (up : Bool) (guard : ℕ) → length accords.kinds ≤ cell → lacks_way accords cell up guard ≡ false
lacks_way-past accords cell up guard h = rw (slice_get_past accords.kinds cell h) refl

-- where the way is there, it is lacking as the accord says
way_there : (b : Bool) (passes : ℕ → Bool) (rows : List (List Bool)) → b ≡ true → count_rows (λ guard. b && passes guard) rows ≡ count_rows passes rows
way_there true passes rows h = refl
way_there false passes rows h = absurd (false≢true h)

pub count_lacks : (accords : Accords) (cell : ℕ) (up : Bool) (rows : List (List Bool)) → HasWay accords.kinds cell up → count_rows (lacks_way accords cell up) rows ≡ count_rows (lacks accords cell up) rows
count_lacks accords cell up rows h =
    way_there (goes (slice_get accords.kinds cell) up) (lacks accords cell up) rows (HasWay-goes accords.kinds cell up h)

pub lacks_way-is : (accords : Accords) (cell : ℕ) (up : Bool) (guard : ℕ) → HasWay accords.kinds cell up → lacks_way accords cell up guard ≡ lacks accords cell up guard
lacks_way-is accords cell up guard h = rw (HasWay-goes accords.kinds cell up h) refl

-- a tally has a number for each way of the shape
AreWays-cells : (kinds : List CellKind) (ways : List Direction) → length kinds ≤ MOST_CELLS → AreWays kinds ways → AreCells ways
AreWays-cells kinds [] few are = tt
AreWays-cells kinds (d ∷ ways) few are =
    (omega (arith, HasWay-inside kinds d.cell d.up are.0), AreWays-cells kinds ways few are.1)

pub AreCells-directions : (kinds : List CellKind) (effect : List Atom) → length kinds ≤ MOST_CELLS → AreCells (directions kinds effect)
AreCells-directions kinds effect few = AreWays-cells kinds (directions kinds effect) few (directions_are_ways kinds effect)

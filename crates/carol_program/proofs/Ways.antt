-- How the entries of a table are counted.
use Rattle.std.proofs.Common.{◌≡◌, ℕ, zero, suc, ◌+◌, ◌*◌, ◌<◌, ◌≤◌, Bool, true, false, List, [], ◌∷◌, length, take, refl, arith}
use Rattle.std.specs.Prelude.{if◌then◌else◌}
use Rattle.carol_store.specs.declared.shape.CellKind.{CellKind}
use Rattle.carol_store.specs.declared.shape.CellKind.TheVariants.{Counter, Peak, Flag}
use Rattle.std.proofs.lemmas.Bool.{false≢true}
use Rattle.carol_store.specs.Kinds.{ways}
use Rattle.carol_program.specs.Accords.{row_length, place_of, HasWay}

pub ways-few : (kind : CellKind) → length (ways kind) ≤ 2
ways-few Counter = omega arith
ways-few Peak = omega arith
ways-few Flag = omega arith

pub row_length-few : (kinds : List CellKind) → row_length kinds ≤ 2 * length kinds
row_length-few [] = omega arith
row_length-few (kind ∷ kinds) = omega (arith, ways-few kind, row_length-few kinds)

-- a way's cell is there
pub HasWay-within : (kinds : List CellKind) (cell : ℕ) (up : Bool) → HasWay kinds cell up → cell < length kinds
HasWay-within [] cell up h = absurd h
HasWay-within (kind ∷ kinds) zero up h = omega arith
HasWay-within (kind ∷ kinds) (suc cell) up h = omega (arith, HasWay-within kinds cell up h)

-- a way's place is that of its cell's first way, or the next
pub place_of-first : (kinds : List CellKind) (cell : ℕ) (up : Bool) → HasWay kinds cell up → place_of kinds cell up ≡ row_length (take cell kinds) + (if up then 0 else 1)
place_of-first [] cell up h = absurd h
place_of-first (kind ∷ kinds) zero true h = refl
place_of-first (kind ∷ kinds) zero false h = refl
place_of-first (kind ∷ kinds) (suc cell) up h = omega (arith, place_of-first kinds cell up h)

-- a way's place is one of those that there are
pub place_of-within : (kinds : List CellKind) (cell : ℕ) (up : Bool) → HasWay kinds cell up → place_of kinds cell up < row_length kinds
place_of-within [] cell up h = absurd h
place_of-within (Counter ∷ kinds) zero true h = omega arith
place_of-within (Counter ∷ kinds) zero false h = omega arith
place_of-within (Peak ∷ kinds) zero true h = omega arith
place_of-within (Flag ∷ kinds) zero true h = omega arith
place_of-within (Peak ∷ kinds) zero false h = absurd (false≢true h)
place_of-within (Flag ∷ kinds) zero false h = absurd (false≢true h)
place_of-within (kind ∷ kinds) (suc cell) up h = omega (arith, place_of-within kinds cell up h)

pub ruleset row_bounds = (row_length-few, ways-few)

pub ruleset places = (HasWay-within, place_of-first, place_of-within)

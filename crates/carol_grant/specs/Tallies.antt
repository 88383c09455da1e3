-- The numbers that a tally has for the ways.
use Rattle.std.specs.Prelude.{◌≡◌, ℕ, ◌<◌, ◌==◌, Bool, true, false, ◌&&◌, if◌then◌else◌, List, [], ◌∷◌, length, get_or}
use Rattle.carol_store.specs.declared.direction.Direction.{Direction}
use Rattle.carol_store.specs.declared.short_list.TheConstants.{MOST_CELLS}
use Rattle.carol_grant.specs.declared.tally.Lacking.{Lacking}
use Rattle.carol_grant.specs.declared.tally.Tally.{Tally}

-- the number for the way
abbrev pub tally_at : Tally → ℕ → Bool → ℕ
tally_at t cell up = get_or (if up then t.up else t.down) cell 0

-- there is a number for each cell and way
pub record IsTally (t : Tally) : Type 0 where
  pub up : length t.up ≡ MOST_CELLS
  pub down : length t.down ≡ MOST_CELLS

-- the way is lacking
abbrev pub lacking_at : Lacking → ℕ → Bool → Bool
lacking_at l cell up = get_or (if up then l.up else l.down) cell false

-- there is an answer for each cell and way
pub record IsLacking (l : Lacking) : Type 0 where
  pub up : length l.up ≡ MOST_CELLS
  pub down : length l.down ≡ MOST_CELLS

-- each way is one of a cell that a tally has a number for
abbrev pub AreCells : List Direction → Type 0
AreCells [] = Unit {0}
AreCells (way ∷ ways) = (way.cell < MOST_CELLS) × AreCells ways

-- no grant lacks any of the ways
abbrev pub is_clear : Tally → List Direction → Bool
is_clear t [] = true
is_clear t (way ∷ ways) = (tally_at t way.cell way.up == 0) && is_clear t ways

-- both have the same number for each of the ways
abbrev pub agrees : Tally → Tally → List Direction → Bool
agrees t u [] = true
agrees t u (way ∷ ways) =
    (tally_at t way.cell way.up == tally_at u way.cell way.up) && agrees t u ways

-- The directions of an effect are ways that its cells have.
use Rattle.std.proofs.Common.{◌≡◌, ℕ, zero, suc, Bool, true, false, List, [], ◌∷◌, ℤ, refl}
use Rattle.std.specs.Prelude.{Option, Some, None, slice_get}
use Rattle.std.specs.List.{cons_option}
use Rattle.std.specs.Option.{option_and_then, option_map}
use Rattle.carol_store.specs.declared.shape.CellKind.{CellKind}
use Rattle.carol_store.specs.declared.shape.CellKind.TheVariants.{Counter, Peak, Flag}
use Rattle.carol_store.specs.declared.effect.Atom.{Atom}
use Rattle.carol_store.specs.Directions.{directions}
use Rattle.carol_store.specs.Kinds.{way}
use Rattle.carol_program.specs.Accords.{AreWays, HasWay}

-- a way that an atom takes is one of its cell's
pub way_there : (kinds : List CellKind) (cell : ℕ) (value : ℤ) (up : Bool) → option_and_then (λ kind. way kind value) (slice_get kinds cell) ≡ Some up → HasWay kinds cell up
way_there [] cell value up e = absurd (nothing e)
  where
    nothing : None ≡ Some up → ⊥
    nothing q = cc
way_there (Counter ∷ kinds) zero value true e = refl
way_there (Counter ∷ kinds) zero value false e = refl
way_there (Peak ∷ kinds) zero value true e = refl
way_there (Peak ∷ kinds) zero value false e = absurd (only_up e)
  where
    only_up : Some true ≡ Some false → ⊥
    only_up q = cc
way_there (Flag ∷ kinds) zero value true e = refl
way_there (Flag ∷ kinds) zero value false e = absurd (only_up e)
  where
    only_up : Some true ≡ Some false → ⊥
    only_up q = cc
way_there (kind ∷ kinds) (suc cell) value up e = way_there kinds cell value up e

-- each direction of an effect is a way of its cell
pub directions_are_ways : (kinds : List CellKind) (atoms : List Atom) → AreWays kinds (directions kinds atoms)
directions_are_ways kinds [] = tt
directions_are_ways kinds (atom ∷ atoms) =
    with_way (option_and_then (λ kind. way kind atom.value) (slice_get kinds atom.cell)) refl (directions_are_ways kinds atoms)
  where
    with_way : (o : Option Bool) → option_and_then (λ kind. way kind atom.value) (slice_get kinds atom.cell) ≡ o → AreWays kinds (directions kinds atoms) → AreWays kinds (cons_option (option_map (λ up. record { cell = atom.cell; up = up }) o) (directions kinds atoms))
    with_way None e rest = rest
    with_way (Some up) e rest = (way_there kinds atom.cell atom.value up e, rest)

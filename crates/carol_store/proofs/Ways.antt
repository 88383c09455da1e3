-- The direction of an atom.
use Rattle.std.proofs.Common.{◌≡◌, ◌<◌, Bool, List, length, Option, get_or, refl}
use Rattle.std.specs.Option.{option_map}
use Rattle.std.proofs.lemmas.Option.{slice_get-get_or}
use Rattle.carol_store.specs.declared.shape.CellKind.{CellKind}
use Rattle.carol_store.specs.declared.effect.Atom.{Atom}
use Rattle.carol_store.specs.Directions.{direction_of}
use Rattle.carol_store.specs.Effects.{IsAtomOf}
use Rattle.carol_store.specs.Kinds.{way}
use Rattle.carol_store.proofs.Cells.{cell_in_shape}

-- the direction goes by the kind that stands at the atom's cell
pub direction_at : (shape kinds : List CellKind) (atom : Atom) (kind : CellKind) (up : Option Bool) → IsAtomOf shape atom → kinds ≡ shape → up ≡ way (get_or kinds atom.cell kind) atom.value → option_map (λ up. record { cell = atom.cell; up = up }) up ≡ direction_of shape atom
direction_at shape kinds atom kind up fits same is =
    let inside : atom.cell < length shape = cell_in_shape shape atom.cell atom.value fits
    in rw (slice_get-get_or shape atom.cell kind inside, ← same, is) refl

-- Rows that were worked by hand.
use Rattle.std.proofs.Common.{◌≡◌, true, false, List, [], ◌∷◌, pos, refl}
use Rattle.std.specs.Prelude.{negsuc}
use Rattle.carol_store.specs.declared.shape.CellKind.{CellKind}
use Rattle.carol_store.specs.declared.shape.CellKind.TheVariants.{Counter, Peak, Flag}
use Rattle.carol_store.specs.declared.effect.Atom.{Atom}
use Rattle.carol_store.specs.Directions.{directions, unit_step}
use Rattle.carol_store.specs.Stores.{apply}

kinds : List CellKind
kinds = Counter ∷ Peak ∷ Flag ∷ Counter ∷ []

-- two taken from the first cell, the second raised, the third set, and nothing added to the fourth
effect : List Atom
effect =
    record { cell = 0; value = negsuc 1 } ∷ record { cell = 1; value = pos 9 } ∷
    record { cell = 2; value = pos 1 } ∷ record { cell = 3; value = pos 0 } ∷ []

applied : apply kinds effect (pos 5 ∷ pos 7 ∷ pos 0 ∷ pos 1 ∷ []) ≡ pos 3 ∷ pos 9 ∷ pos 1 ∷ pos 1 ∷ []
unfolding kinds effect
applied = refl

-- a peak that is higher stays
stays : apply kinds (record { cell = 1; value = pos 6 } ∷ []) (pos 5 ∷ pos 7 ∷ pos 0 ∷ pos 1 ∷ []) ≡ pos 5 ∷ pos 7 ∷ pos 0 ∷ pos 1 ∷ []
unfolding kinds
stays = refl

-- down, up and up, and no direction at the fourth
moves : directions kinds effect ≡ record { cell = 0; up = false } ∷ record { cell = 1; up = true } ∷ record { cell = 2; up = true } ∷ []
unfolding kinds effect
moves = refl

-- one step down
steps : unit_step kinds (record { cell = 0; up = false }) (pos 0 ∷ pos 7 ∷ pos 0 ∷ pos 1 ∷ []) ≡ negsuc 0 ∷ pos 7 ∷ pos 0 ∷ pos 1 ∷ []
unfolding kinds
steps = refl

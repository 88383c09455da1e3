-- The store of the round that is open at the first mark.
use Rattle.std.proofs.Common.{List, [], ◌∷◌}
use Rattle.carol_store.specs.Kinds.{CellValue}
use Rattle.carol_program.specs.Rules.{Rules}
use Rattle.carol_reading.specs.Marks.{Mark, Asked}
use Rattle.carol_reading.specs.Rounds.{IsSound, IsProper}

-- the store of the round that is open at the first mark
abbrev pub first_of : List (List CellValue) → List CellValue → List CellValue
first_of [] current = current
first_of (y ∷ ended) current = y

module _ (p : Rules) where
  -- the round that is open at the first mark has a sound store
  pub first-sound : (marks : List Mark) (ended : List (List CellValue)) (current : List CellValue) → IsProper p marks ended current → IsSound p (first_of ended current)
  first-sound [] [] current h = h
  first-sound [] (y ∷ ended) current h = absurd h
  first-sound (Asked n x ∷ marks) [] current h = first-sound marks [] current h.1
  first-sound (Asked n x ∷ marks) (y ∷ ended) current h = first-sound marks (y ∷ ended) current h.1
  first-sound (m ∷ marks) [] current h = absurd h
  first-sound (m ∷ marks) (y ∷ ended) current h = h.0

-- What an operation leaves behind as it runs.
use Rattle.std.specs.Prelude.{ℕ, List, [], ◌∷◌, ℤ}
use Rattle.carol_store.specs.declared.effect.Atom.{Atom}
use Rattle.carol_store.specs.Kinds.{CellValue}

-- a store was asked for under a guard, an effect was issued, or the guards were released; a
-- returned value ends the operation
pub data Mark : Type 0 where
  Asked : (guard : ℕ) (store : List CellValue) → Mark
  Issued : (effect : List Atom) → Mark
  Released : Mark
  Returned : (value : ℤ) → Mark

-- the stores that were asked for, in order
abbrev pub queried : List Mark → List (List CellValue)
queried [] = []
queried (Asked guard store ∷ marks) = store ∷ queried marks
queried (Issued effect ∷ marks) = queried marks
queried (Released ∷ marks) = queried marks
queried (Returned value ∷ marks) = queried marks

-- the operation has not ended
abbrev pub HasNotReturned : List Mark → Type 0
HasNotReturned [] = Unit {0}
HasNotReturned (Asked guard store ∷ marks) = HasNotReturned marks
HasNotReturned (Issued effect ∷ marks) = HasNotReturned marks
HasNotReturned (Released ∷ marks) = HasNotReturned marks
HasNotReturned (Returned value ∷ marks) = ⊥

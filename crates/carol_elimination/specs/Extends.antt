-- Rows more in a list of rows that stand for all.
use Rattle.std.specs.Prelude.{ℕ, ◌<◌, ◌⊎◌, List, [], ◌∷◌, ◌++◌, length, slice_set}
use Rattle.carol_formula.specs.Linear.{Linear}
use Rattle.carol_elimination.specs.Stands.{IsIdle, Dominates, IsDominated, Stand}
use Rattle.carol_elimination.specs.Derived.{row_at}
use Rattle.carol_elimination.specs.declared.stage.Verdict.{Verdict}
use Rattle.carol_elimination.specs.declared.stage.Verdict.TheVariants.{LeftOut, Replaces, New}

-- the new rows stand for whatever the old ones stand for, and for the further ones
pub record Extend (old new further : List Linear) : Type 0 where
  pub extends : (all : List Linear) → Stand old all → Stand new (all ++ further)

-- the row isn't needed, or is tighter than the one at the place, or is to be added
abbrev pub IsVerdict : List Linear → Linear → Verdict → Type 0
IsVerdict rows r LeftOut = IsIdle r ⊎ IsDominated rows r
IsVerdict rows r (Replaces i) = (i < length rows) × Dominates r (row_at rows i)
IsVerdict rows r New = Unit {0}

-- the place of a row that is replaced is one of so many
abbrev pub IsKnown : Verdict → ℕ → Type 0
IsKnown LeftOut n = Unit {0}
IsKnown (Replaces i) n = i < n
IsKnown New n = Unit {0}

-- the numbers with that of the row at its place
abbrev pub placed : Verdict → ℕ → List ℕ → List ℕ
placed LeftOut at ks = ks
placed (Replaces i) at ks = slice_set ks i at
placed New at ks = ks ++ at ∷ []

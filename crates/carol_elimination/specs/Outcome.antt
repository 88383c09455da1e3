-- What comes of eliminating all variables of a list of rows.
use Rattle.std.specs.Prelude.{ℕ, ◌<◌, List, [], ◌∷◌, length, map, ℤ, Vec}
use Rattle.std.specs.declared.alloc.Global.{Global}
use Rattle.carol_formula.specs.Linear.{Linear, IsTerm}
use Rattle.carol_formula.specs.Claim.{Le}
use Rattle.carol_cert.specs.declared.step.RowStep.{RowStep}
use Rattle.carol_cert.specs.Steps.{Closes}
use Rattle.carol_elimination.specs.Stage.{Among, next, eliminated, first_stage, IsAbsurdRow, IsQuiet}
use Rattle.carol_elimination.specs.Values.{AreTrueRows}
use Rattle.carol_elimination.specs.Stands.{Stand}
use Rattle.carol_elimination.specs.Derived.{AreDerived}
use Rattle.carol_elimination.specs.Reasons.{IsWidePair}
use Rattle.carol_elimination.specs.Entries.{row_in, rows_in, AreInside}
use Rattle.carol_elimination.specs.declared.elimination.Elimination.{Elimination}
use Rattle.carol_elimination.specs.declared.elimination.Outcome.{Outcome}
use Rattle.carol_elimination.specs.declared.elimination.Outcome.TheVariants.{Quiet, Absurd, Wide}

-- for each variable the numbers of rows that stand for all rows of its stage
abbrev pub AreStages : List ℕ → List Linear → List (RowStep × Linear) → List (Vec ℕ Global) → Type 0
AreStages [] rows entries [] = Unit {0}
AreStages [] rows entries (s ∷ ss) = ⊥
AreStages (x ∷ xs) rows entries [] = ⊥
AreStages (x ∷ xs) rows entries (s ∷ ss) = AreInside entries s.items × Stand (rows_in entries s.items) rows × AreStages xs (next x rows) entries ss

-- each row is one of the code, and none is absurd
abbrev pub AreSound : List Linear → Type 0
AreSound rows = (r : Linear) → Among r rows → IsTerm r × (¬ IsAbsurdRow r)

-- no absurd row was made, and without variables the rows that are left are true of any numbers
pub record IsQuietOutcome (given : List Linear) (xs : List ℕ) (e : Elimination) : Type 0 where
  pub derived : AreDerived given e.arena
  pub stages : AreStages xs (first_stage given) e.arena e.stages.items
  pub quiet : IsQuiet given
  pub settled : (f : ℕ → ℤ) → AreTrueRows f (eliminated xs (first_stage given))

-- the two rows of the arena have no narrow combination
pub record IsWideOutcome (given : List Linear) (entries : List (RowStep × Linear)) (upper lower x : ℕ) : Type 0 where
  pub derived : AreDerived given entries
  pub upper_stands : upper < length entries
  pub lower_stands : lower < length entries
  pub wide : IsWidePair x (row_in entries upper) (row_in entries lower)

abbrev pub IsOutcome : List Linear → List ℕ → Outcome → Type 0
IsOutcome given xs (Quiet e) = IsQuietOutcome given xs e
IsOutcome given xs (Absurd steps) = Closes (map Le given) steps
IsOutcome given xs (Wide arena upper lower x) = IsWideOutcome given arena upper lower x

-- What comes of choosing a whole number for each variable.
use Rattle.std.specs.Prelude.{ℕ, ◌≡◌, ◌⊎◌, List, [], ◌∷◌, ◌++◌, ℤ, pos, ◌+ℤ◌}
use Rattle.carol_formula.specs.Bounds.{IsBelow, term_limit}
use Rattle.carol_formula.specs.Linear.{Linear}
use Rattle.carol_formula.specs.Numbers.{number_at}
use Rattle.carol_formula.specs.Value.{Fits, FitsWithin}
use Rattle.carol_cert.specs.declared.step.RowStep.{RowStep}
use Rattle.carol_elimination.specs.Stage.{Among}
use Rattle.carol_elimination.specs.Values.{IsTrueRow}
use Rattle.carol_elimination.specs.Due.{IsDueFor}
use Rattle.carol_elimination.specs.Free.{IsIn}
use Rattle.carol_elimination.specs.Derived.{AreDerived}
use Rattle.carol_elimination.specs.Reasons.{IsChosenFrom}
use Rattle.carol_elimination.specs.Entries.{steps_of}
use Rattle.carol_elimination.specs.declared.choice.Choice.{Choice}
use Rattle.carol_elimination.specs.declared.choice.Choice.TheVariants.{Model, Stuck, Far}

-- the row can be added up at the numbers, and is true of them
pub record IsMet (f : ℕ → ℤ) (r : Linear) : Type 0 where
  pub fits : Fits r f
  pub holds : IsTrueRow f r

-- so is each row
abbrev pub AreMet : (ℕ → ℤ) → List Linear → Type 0
AreMet f rows = (r : Linear) → Among r rows → IsMet f r

-- a branch on x at k is due, and the row of either side is one that the code can have
pub record IsStuckAt (given : List Linear) (x : ℕ) (k : ℤ) : Type 0 where
  pub due : IsDueFor given x k
  pub low_side : IsBelow term_limit k
  pub high_side : IsBelow term_limit (k +ℤ pos 1)

-- the last variables have chosen numbers, and any other is 0
pub record AreLastChosen (given : List Linear) (f : ℕ → ℤ) : Type 0 where
  pub last : IsChosenFrom given f
  pub others : (v : ℕ) → IsIn v last.after ⊎ (f v ≡ pos 0)

-- the last one of the steps makes the row
pub record IsDerivedBy (given : List Linear) (steps : List RowStep) (row : Linear) : Type 0 where
  pub before : List (RowStep × Linear)
  pub step : RowStep
  pub derived : AreDerived given (before ++ (step, row) ∷ [])
  pub are_steps : steps ≡ steps_of (before ++ (step, row) ∷ [])

-- the steps make the row, and a product or a sum on the way to its value isn't below 2 ^ 100
pub record IsFar (given : List Linear) (steps : List RowStep) (row : Linear) (f : ℕ → ℤ) : Type 0 where
  pub derived : IsDerivedBy given steps row
  pub far : ¬ FitsWithin term_limit row f
  pub numbers : AreLastChosen given f

abbrev pub IsChoice : List Linear → Choice → Type 0
IsChoice given (Model values) = AreMet (number_at values) given
IsChoice given (Stuck x k) = IsStuckAt given x k
IsChoice given (Far steps row values) = IsFar given steps row.0 (number_at values)

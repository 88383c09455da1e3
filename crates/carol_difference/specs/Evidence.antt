-- The evidence for an answer: numbers for the variables, and steps that add rows up.
use Rattle.std.specs.Prelude.{◌≡◌, ℕ, ◌+◌, ◌<◌, ◌≤◌, ◌^◌, List, [], ◌∷◌, Some, slice_get, ℤ, pos, ◌-ℤ◌, unsigned_abs}
use Rattle.carol_formula.specs.Numbers.{number_at}
use Rattle.carol_cert.specs.declared.RowStep.{RowStep}
use Rattle.carol_cert.specs.declared.RowStep.TheVariants.{Given, Combine}
use Rattle.carol_difference.specs.Edges.{value_in}

-- no variable stands twice
abbrev pub AreApart : List ℕ → Type 0
AreApart variables = (j k v : ℕ) → slice_get variables j ≡ Some v → slice_get variables k ≡ Some v → j ≡ k

-- the first variables have the numbers of their nodes, less that of node 0, and no number is large
pub record GivesNumbers (variables : List ℕ) (values : List ℤ) (count : ℕ) (numbers : List (ℕ × ℤ)) : Type 0 where
  pub given : (k v : ℕ) → k < count → slice_get variables k ≡ Some v → number_at numbers v ≡ value_in values (k + 1) -ℤ value_in values 0
  pub small : (v : ℕ) → unsigned_abs (number_at numbers v) ≤ 2 ^ 124

-- the steps that add the rows with these numbers to row `last`, one after another
abbrev pub more_steps : ℕ → List ℕ → List RowStep
more_steps last [] = []
more_steps last (n ∷ ns) = Given n ∷ Combine last (pos 1) (last + 1) (pos 1) ∷ more_steps (last + 2) ns

-- the steps that make the sum of the rows with these numbers
abbrev pub sum_steps : List ℕ → List RowStep
sum_steps [] = []
sum_steps (n ∷ ns) = Given n ∷ more_steps 0 ns

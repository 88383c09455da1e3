-- Why rows stay undecided, in the words of elimination.
use Rattle.std.specs.Prelude.{ℕ, ◌≡◌, List, ◌++◌, ℤ}
use Rattle.carol_formula.specs.Bounds.{term_limit}
use Rattle.carol_formula.specs.Linear.{Linear, IsWithin}
use Rattle.carol_elimination.specs.Stage.{upper_part, lower_part, least, eliminated, variables, first_stage}
use Rattle.carol_elimination.specs.Values.{AreChosen}
use Rattle.carol_elimination.specs.Derived.{IsPair}

-- no product and no sum of the least combination reaches 2 ^ 100
pub record IsNarrowPair (x : ℕ) (u l : Linear) : Type 0 where
  pub first : IsWithin term_limit (upper_part x u l)
  pub second : IsWithin term_limit (lower_part x u l)
  pub sum : IsWithin term_limit (least x u l)

-- the least combination that cancels the lowest variable of both rows has a number that isn't below 2 ^ 100
pub record IsWidePair (x : ℕ) (u l : Linear) : Type 0 where
  pub pair : IsPair x u l
  pub wide : ¬ IsNarrowPair x u l

-- the numbers of the last variables are chosen, each at its stage
pub record IsChosenFrom (given : List Linear) (f : ℕ → ℤ) : Type 0 where
  pub before : List ℕ
  pub after : List ℕ
  pub split : before ++ after ≡ variables given
  pub chosen : AreChosen after (eliminated before (first_stage given)) f

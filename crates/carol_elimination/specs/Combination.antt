-- The least combination of two rows, as the code answers it.
use Rattle.std.specs.Prelude.{ℕ, ◌≡◌}
use Rattle.carol_formula.specs.Linear.{Linear}
use Rattle.carol_elimination.specs.Stage.{factor_of, multiplier, least}
use Rattle.carol_elimination.specs.Reasons.{IsNarrowPair}
use Rattle.carol_elimination.specs.declared.combination.Combination.{Combination}

-- m times the upper row and n times the lower one are their least combination, and no number on the way to
-- it reaches 2 ^ 100
pub record IsCombinationOf (x : ℕ) (u l : Linear) (c : Combination) : Type 0 where
  pub first : c.m ≡ multiplier (factor_of x u) (factor_of x l)
  pub second : c.n ≡ multiplier (factor_of x l) (factor_of x u)
  pub row : c.row ≡ least x u l
  pub narrow : IsNarrowPair x u l

-- Rows that stand for all rows of a list: equal rows, looser ones and `0 <= c` may be left out.
use Rattle.std.specs.Prelude.{◌≡◌, ◌⊎◌, List, [], pos, ◌≤ℤ◌}
use Rattle.carol_formula.specs.Linear.{Linear}
use Rattle.carol_elimination.specs.Stage.{Among}

-- a row without variables that is true
pub record IsIdle (r : Linear) : Type 0 where
  pub no_variable : r.pairs ≡ []
  pub holds : r.rest ≤ℤ pos 0

-- the rows have the same coefficients, and the first one's bound is at least as tight
pub record Dominates (k r : Linear) : Type 0 where
  pub same : r.pairs ≡ k.pairs
  pub tighter : r.rest ≤ℤ k.rest

-- a row of the list dominates this one
pub record IsDominated (kept : List Linear) (r : Linear) : Type 0 where
  pub by : Linear
  pub among : Among by kept
  pub dominates : Dominates by r

-- the rows that are kept stand for all rows
pub record Stand (kept rows : List Linear) : Type 0 where
  pub chosen : (r : Linear) → Among r kept → Among r rows
  pub left_out : (r : Linear) → Among r rows → IsIdle r ⊎ IsDominated kept r

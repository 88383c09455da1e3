-- What rows say of a variable, and why there is no next stage.
use Rattle.std.specs.Prelude.{ℕ, ◌<◌, Bool, List, length}
use Rattle.carol_formula.specs.Linear.{Linear, is_zero}
use Rattle.carol_cert.specs.declared.step.RowStep.{RowStep}
use Rattle.carol_elimination.specs.Stage.{Among, factor_of, is_upper, is_lower}
use Rattle.carol_elimination.specs.Derived.{AreDerived, IsPair}
use Rattle.carol_elimination.specs.Reasons.{IsWidePair}
use Rattle.carol_elimination.specs.Entries.{row_in}
use Rattle.carol_elimination.specs.declared.next.Side.{Side}
use Rattle.carol_elimination.specs.declared.next.Side.TheVariants.{Free, Upper, Lower}
use Rattle.carol_elimination.specs.declared.next.Stop.{Stop}
use Rattle.carol_elimination.specs.declared.next.Stop.TheVariants.{Wide, NoMemory}

abbrev pub is_of : Side → ℕ → Linear → Bool
is_of Free x r = is_zero (factor_of x r)
is_of Upper x r = is_upper x r
is_of Lower x r = is_lower x r

-- each row of the list makes a pair with the upper one
abbrev pub ArePairs : ℕ → Linear → List Linear → Type 0
ArePairs x u below = (l : Linear) → Among l below → IsPair x u l

abbrev pub AreAllPairs : ℕ → List Linear → List Linear → Type 0
AreAllPairs x above below = (u : Linear) → Among u above → ArePairs x u below

-- what was derived of any rows stays so
abbrev pub KeepDerived : List (RowStep × Linear) → List (RowStep × Linear) → Type 0
KeepDerived old new = (given : List Linear) → AreDerived given old → AreDerived given new

-- the reason names two rows whose least combination is wide
abbrev pub IsStop : ℕ → List (RowStep × Linear) → List (RowStep × Linear) → Stop → Type 0
IsStop x old new (Wide upper lower) = (upper < length new) × (lower < length new) × IsWidePair x (row_in new upper) (row_in new lower) × KeepDerived old new
IsStop x old new NoMemory = Unit {0}

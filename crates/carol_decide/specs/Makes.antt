-- Numbers that make a case of a formula true.
use Rattle.std.specs.Prelude.{ℕ, ◌⊎◌, List, ℤ, IsTrue}
use Rattle.carol_formula.specs.Value.{Fits}
use Rattle.carol_formula.specs.Claim.{Claim, True, False, Le, Eq, Ne, And, Or, Not, truth}
use Rattle.carol_cert.specs.Cases.{below_zero, above_zero}
use Rattle.carol_decide.specs.Sizes.{Each}

-- the comparison's term can be added up at the numbers, and the comparison is true of them
abbrev pub MakesRow : (ℕ → ℤ) → Claim → Type 0
MakesRow f (Le t) = Fits t f × IsTrue (truth (Le t) f)
MakesRow f (Eq t) = Fits t f × IsTrue (truth (Eq t) f)
MakesRow f _ = ⊥

-- some case of the formula is true of the numbers, and each term of that case can be added up. The cases of a
-- `Ne` are `t + 1 <= 0` and `1 - t <= 0`.
abbrev pub Makes : (ℕ → ℤ) → Claim → Type 0
Makes f True = Unit {0}
Makes f False = ⊥
Makes f (Le t) = MakesRow f (Le t)
Makes f (Eq t) = MakesRow f (Eq t)
Makes f (Ne t) = MakesRow f (below_zero t) ⊎ MakesRow f (above_zero t)
Makes f (And a b) = Makes f a × Makes f b
Makes f (Or a b) = Makes f a ⊎ Makes f b
Makes f (Not a) = ⊥

abbrev pub MakesAll : (ℕ → ℤ) → List Claim → Type 0
MakesAll f claims = Each (Makes f) claims

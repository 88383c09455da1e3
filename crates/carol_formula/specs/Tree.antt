-- The claim that a formula of the code makes.
use Rattle.std.specs.Prelude.{ℕ, ◌+◌}
use Rattle.carol_formula.specs.Claim as claim
use Rattle.carol_formula.specs.Claim.{Claim}
use Rattle.carol_formula.specs.declared.formula.Formula.{Formula, fold-Formula}
use Rattle.carol_formula.specs.declared.formula.Formula.TheOpen.{Formula-F}
use Rattle.carol_formula.specs.declared.formula.Comparison.{Comparison}
use Rattle.carol_formula.specs.Linear.{Linear}

-- one level, where each part gives its claim
abbrev pub claim_at : Formula-F Claim → Claim
claim_at Formula-F.True = claim.True
claim_at Formula-F.False = claim.False
claim_at (Formula-F.Le t) = claim.Le t
claim_at (Formula-F.Eq t) = claim.Eq t
claim_at (Formula-F.Ne t) = claim.Ne t
claim_at (Formula-F.And a b) = claim.And a b
claim_at (Formula-F.Or a b) = claim.Or a b
claim_at (Formula-F.Not a) = claim.Not a

abbrev pub claim_of : Formula → Claim
claim_of = fold-Formula Claim claim_at

-- the formula that compares the term with 0
abbrev pub comparing : Comparison → Linear → Formula
comparing Comparison.Le t = Formula.Le t
comparing Comparison.Eq t = Formula.Eq t
comparing Comparison.Ne t = Formula.Ne t

-- how much is left to be dropped: it falls where the right part of a left one is moved to the right
abbrev pub rank_at : Formula-F ℕ → ℕ
rank_at (Formula-F.And a b) = a + a + b + 1
rank_at (Formula-F.Or a b) = a + a + b + 1
rank_at (Formula-F.Not a) = a + 1
rank_at _ = 1

abbrev pub rank_of : Formula → ℕ
rank_of = fold-Formula ℕ rank_at

-- The comparisons that a refutation makes of others.
use Rattle.std.specs.Prelude.{ℕ, [], ◌∷◌, ℤ, pos, negsuc, ◌+ℤ◌, ◌-ℤ◌, neg_ℤ}
use Rattle.carol_formula.specs.Linear.{Linear, times}
use Rattle.carol_formula.specs.Claim.{Claim, Le}

-- t is below 0: `t + 1 <= 0`
abbrev pub below_zero : Linear → Claim
below_zero t = Le (record { pairs = t.pairs; rest = t.rest +ℤ pos 1 })

-- t is above 0: `1 - t <= 0`
abbrev pub above_zero : Linear → Claim
above_zero t = Le (record { pairs = times (negsuc 0) t.pairs; rest = pos 1 -ℤ t.rest })

-- the variable is at most k
abbrev pub at_most_number : ℕ → ℤ → Claim
at_most_number v k = Le (record { pairs = (v, pos 1) ∷ []; rest = neg_ℤ k })

-- the variable is at least k
abbrev pub at_least_number : ℕ → ℤ → Claim
at_least_number v k = Le (record { pairs = (v, negsuc 0) ∷ []; rest = k })

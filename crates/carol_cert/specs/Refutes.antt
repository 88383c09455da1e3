-- When a refutation is right.
use Rattle.std.specs.Prelude.{ℕ, ◌≡◌, false, List, [], ◌∷◌, ◌++◌, Option, Some, None, MatchOption, slice_get, slice_set, ℤ, pos, ◌+ℤ◌, All, IsTrue}
use Rattle.std.specs.Option.{option_and_then}
use Rattle.carol_formula.specs.Bounds.{IsBelow, value_limit}
use Rattle.carol_formula.specs.Claim.{Claim, False, Ne, And, Or, truth}
use Rattle.carol_cert.specs.Cases.{below_zero, above_zero, at_most_number, at_least_number}
use Rattle.carol_cert.specs.Steps.{Closes}
use Rattle.carol_cert.specs.Proof.{Proof, Absurd, Part, Split, Branch, Rows, Unclosed}

-- the left and the right part of an `And`
abbrev pub parts_of : Claim → Option (Claim × Claim)
parts_of (And a b) = Some (a, b)
parts_of _ = None

-- the two cases of an `Or`, and of a `Ne` that its term is below 0 or above it
abbrev pub sides_of : Claim → Option (Claim × Claim)
sides_of (Or a b) = Some (a, b)
sides_of (Ne t) = Some (below_zero t, above_zero t)
sides_of _ = None

-- those of the claim with a number, if there is such a claim
abbrev pub parts_at : List Claim → ℕ → Option (Claim × Claim)
parts_at claims at = option_and_then parts_of (slice_get claims at)

abbrev pub sides_at : List Claim → ℕ → Option (Claim × Claim)
sides_at claims at = option_and_then sides_of (slice_get claims at)

-- the tree refutes the list of claims
abbrev pub Refutes : Proof → List Claim → Type 0
Refutes (Absurd at) claims = slice_get claims at ≡ Some False
Refutes (Part at rest) claims = MatchOption (parts_at claims at) ⊥ (λ p. Refutes rest (slice_set claims at p.0 ++ p.1 ∷ []))
Refutes (Split at left right) claims = MatchOption (sides_at claims at) ⊥ (λ p. Refutes left (slice_set claims at p.0) × Refutes right (slice_set claims at p.1))
Refutes (Branch v k low high) claims = IsBelow value_limit k × IsBelow value_limit (k +ℤ pos 1) × Refutes low (claims ++ at_most_number v k ∷ []) × Refutes high (claims ++ at_least_number v (k +ℤ pos 1) ∷ [])
Refutes (Rows steps) claims = Closes claims steps
Refutes Unclosed claims = ⊥

-- no valuation makes the claim true
abbrev pub IsNeverTrue : Claim → Type 0
IsNeverTrue claim = (f : ℕ → ℤ) → truth claim f ≡ false

-- no valuation makes all the claims true
abbrev pub AreNeverTrue : List Claim → Type 0
AreNeverTrue claims = (f : ℕ → ℤ) → All (λ claim. IsTrue (truth claim f)) claims → ⊥

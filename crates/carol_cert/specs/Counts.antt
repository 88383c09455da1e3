-- How many turns a tree takes, and which trees are right as far as they go.
use Rattle.std.specs.Prelude.{ℕ, ◌+◌, ◌≡◌, Bool, true, false, ◌||◌, List, [], ◌∷◌, ◌++◌, Some, MatchOption, slice_get, slice_set, pos, ◌+ℤ◌, IsTrue}
use Rattle.carol_formula.specs.Bounds.{IsBelow, value_limit}
use Rattle.carol_formula.specs.Claim.{Claim, False}
use Rattle.carol_cert.specs.Cases.{at_most_number, at_least_number}
use Rattle.carol_cert.specs.Steps.{Closes}
use Rattle.carol_cert.specs.Proof.{Proof, Absurd, Part, Split, Branch, Rows, Unclosed}
use Rattle.carol_cert.specs.Refutes.{parts_at, sides_at}

-- a turn is a leaf that closes its list, or a branch
abbrev pub turns_of : Proof → ℕ
turns_of (Absurd at) = 1
turns_of (Part at rest) = turns_of rest
turns_of (Split at left right) = turns_of left + turns_of right
turns_of (Branch v k low high) = turns_of low + turns_of high + 1
turns_of (Rows steps) = 1
turns_of Unclosed = 0

-- some leaf is unclosed
abbrev pub has_gap : Proof → Bool
has_gap (Absurd at) = false
has_gap (Part at rest) = has_gap rest
has_gap (Split at left right) = has_gap left || has_gap right
has_gap (Branch v k low high) = has_gap low || has_gap high
has_gap (Rows steps) = false
has_gap Unclosed = true

-- the tree would refute the list of claims if its unclosed leaves closed theirs
abbrev pub GoesRight : Proof → List Claim → Type 0
GoesRight (Absurd at) claims = slice_get claims at ≡ Some False
GoesRight (Part at rest) claims = MatchOption (parts_at claims at) ⊥ (λ p. GoesRight rest (slice_set claims at p.0 ++ p.1 ∷ []))
GoesRight (Split at left right) claims = MatchOption (sides_at claims at) ⊥ (λ p. GoesRight left (slice_set claims at p.0) × GoesRight right (slice_set claims at p.1))
GoesRight (Branch v k low high) claims = IsBelow value_limit k × IsBelow value_limit (k +ℤ pos 1) × GoesRight low (claims ++ at_most_number v k ∷ []) × GoesRight high (claims ++ at_least_number v (k +ℤ pos 1) ∷ [])
GoesRight (Rows steps) claims = Closes claims steps
GoesRight Unclosed claims = Unit {0}

-- it goes right, and some leaf is unclosed
abbrev pub IsUnfinished : Proof → List Claim → Type 0
IsUnfinished tree claims = GoesRight tree claims × IsTrue (has_gap tree)

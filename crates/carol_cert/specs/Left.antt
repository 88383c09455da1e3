-- What is left of a walk over a tree: trees, each with the claims at its place.
use Rattle.std.specs.Prelude.{ℕ, ◌+◌, Bool, false, ◌||◌, List, [], ◌∷◌, ◌++◌, map, pos, ◌+ℤ◌}
use Rattle.carol_formula.specs.Bounds.{IsBelow, value_limit}
use Rattle.carol_formula.specs.Claim.{Claim}
use Rattle.carol_cert.specs.Cases.{at_least_number}
use Rattle.carol_cert.specs.Place.{claim_of_item}
use Rattle.carol_cert.specs.declared.place.Item.{Item}
use Rattle.carol_cert.specs.declared.place.Item.TheVariants.{Whole, Negative, Positive, AtMost, AtLeast}
use Rattle.carol_cert.specs.Proof.{Proof}
use Rattle.carol_cert.specs.Counts.{turns_of, has_gap, GoesRight}

-- ---- branches on the way down, each with a bound and the tree of its high side

abbrev pub bound_of : Item × Proof → Item
bound_of branch = branch.0

abbrev pub claim_of_branch : Item × Proof → Claim
claim_of_branch branch = claim_of_item branch.0

-- the number of a bound is below 2 ^ 126, and so is that of the other side where this is the low one
abbrev pub IsSide : Item → Type 0
IsSide (AtMost v k) = IsBelow value_limit k × IsBelow value_limit (k +ℤ pos 1)
IsSide (AtLeast v k) = IsBelow value_limit k
IsSide (Whole formula) = Unit {0}
IsSide (Negative t) = Unit {0}
IsSide (Positive t) = Unit {0}

abbrev pub AreSides : List (Item × Proof) → Type 0
AreSides [] = Unit {0}
AreSides (branch ∷ branches) = IsSide branch.0 × AreSides branches

-- the claims below all branches
abbrev pub claims_below : List Claim → List (Item × Proof) → List Claim
claims_below claims branches = claims ++ map claim_of_branch branches

-- the high side of a branch that is on the low one
abbrev pub waiting_at : List Claim → Item → Proof → List (Proof × List Claim)
waiting_at claims (AtMost v k) tree = (tree, claims ++ at_least_number v.now (k +ℤ pos 1) ∷ []) ∷ []
waiting_at claims (AtLeast v k) tree = []
waiting_at claims (Whole formula) tree = []
waiting_at claims (Negative t) tree = []
waiting_at claims (Positive t) tree = []

-- those of all branches, the lowest first
abbrev pub waiting : List Claim → List (Item × Proof) → List (Proof × List Claim)
waiting claims [] = []
waiting claims (branch ∷ branches) = waiting (claims ++ claim_of_branch branch ∷ []) branches ++ waiting_at claims branch.0 branch.1

-- ---- all that is left

abbrev pub AllGoRight : List (Proof × List Claim) → Type 0
AllGoRight [] = Unit {0}
AllGoRight (first ∷ rest) = GoesRight first.0 first.1 × AllGoRight rest

abbrev pub turns_left : List (Proof × List Claim) → ℕ
turns_left [] = 0
turns_left (first ∷ rest) = turns_of first.0 + turns_left rest

abbrev pub gap_left : List (Proof × List Claim) → Bool
gap_left [] = false
gap_left (first ∷ rest) = has_gap first.0 || gap_left rest

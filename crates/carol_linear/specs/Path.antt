-- The branches on the way to a place.
use Rattle.std.specs.Prelude.{ℕ, ◌+◌, Bool, false, ◌||◌, List, [], ◌∷◌, ◌++◌, Option, Some, None, ℤ, pos, ◌+ℤ◌}
use Rattle.carol_formula.specs.Bounds.{IsBelow, value_limit}
use Rattle.carol_formula.specs.Linear.{Linear}
use Rattle.carol_formula.specs.Claim.{Claim, Le}
use Rattle.carol_cert.specs.Cases.{at_most_number, at_least_number}
use Rattle.carol_cert.specs.Steps.{term_of}
use Rattle.carol_cert.specs.Proof.{Proof, proof_of}
use Rattle.carol_cert.specs.Counts.{turns_of, has_gap, GoesRight}
use Rattle.carol_cert.specs.declared.tree.Refutation.{Refutation}
use Rattle.carol_elimination.specs.Due.{IsDue, BranchesAreDue}
use Rattle.carol_linear.specs.declared.branch.Frame.{Frame}

-- ---- rows

-- the row of the side that is searched: the low one, and the high one as soon as the low one is finished
abbrev pub side_row : ℕ → ℤ → Option Refutation → Linear
side_row x k None = term_of (Some (at_most_number x k))
side_row x k (Some low) = term_of (Some (at_least_number x (k +ℤ pos 1)))

abbrev pub frame_row : Frame → Linear
frame_row f = side_row f.variable f.k f.low

abbrev pub frame_rows : List Frame → List Linear
frame_rows [] = []
frame_rows (f ∷ frames) = frame_row f ∷ frame_rows frames

-- ---- counts

abbrev pub low_turns : Option Refutation → ℕ
low_turns None = 0
low_turns (Some low) = turns_of (proof_of low)

-- the turns of the branches and of their finished low sides
abbrev pub turns_on : List Frame → ℕ
turns_on [] = 0
turns_on (f ∷ frames) = low_turns f.low + 1 + turns_on frames

abbrev pub low_gap : Option Refutation → Bool
low_gap None = false
low_gap (Some low) = has_gap (proof_of low)

-- some leaf of a finished low side is unclosed
abbrev pub gap_on : List Frame → Bool
gap_on [] = false
gap_on (f ∷ frames) = low_gap f.low || gap_on frames

abbrev pub low_waits : Option Refutation → ℕ
low_waits None = 1
low_waits (Some low) = 0

-- how many high sides are waiting
abbrev pub waiting_on : List Frame → ℕ
waiting_on [] = 0
waiting_on (f ∷ frames) = low_waits f.low + waiting_on frames

-- ---- what is right

-- the tree is right from the claims as far as it goes, and its branches are due
pub record IsRight (claims : List Claim) (tree : Proof) : Type 0 where
  pub goes : GoesRight tree claims
  pub due : BranchesAreDue tree claims

-- a low side is right where it is finished
abbrev pub LowIsRight : List Claim → ℕ → ℤ → Option Refutation → Type 0
LowIsRight claims x k None = Unit {0}
LowIsRight claims x k (Some low) = IsRight (claims ++ at_most_number x k ∷ []) (proof_of low)

-- the branch is due for the claims
pub record Branches (claims : List Claim) (f : Frame) : Type 0 where
  pub small : IsBelow value_limit f.k
  pub next_small : IsBelow value_limit (f.k +ℤ pos 1)
  pub due : IsDue claims f.variable f.k
  pub low : LowIsRight claims f.variable f.k f.low

-- each branch is due for the claims and for the rows of the branches before it
abbrev pub ArePath : List Claim → List Frame → Type 0
ArePath claims [] = Unit {0}
ArePath claims (f ∷ frames) = Branches claims f × ArePath (claims ++ Le (frame_row f) ∷ []) frames

-- The way to a place: which formulas were taken apart, and which sides are finished or waiting.
use Rattle.std.specs.Prelude.{ℕ, ◌≡◌, ◌+◌, List, [], ◌∷◌, ◌++◌, Some, slice_get, slice_set}
use Rattle.carol_formula.specs.Claim.{Claim}
use Rattle.carol_cert.specs.Proof.{Proof, proof_of}
use Rattle.carol_cert.specs.Refutes.{parts_of, sides_of}
use Rattle.carol_cert.specs.Counts.{turns_of}
use Rattle.carol_decide.specs.declared.frame.Frame.{Frame}
use Rattle.carol_decide.specs.declared.frame.Frame.TheVariants.{Parts, Low, High}
use Rattle.carol_decide.specs.Finished.{IsFinished}
use Rattle.carol_decide.specs.Piece.{claim_of_piece}

-- the formula with the number
abbrev pub StandsAt : List Claim → ℕ → Claim → Type 0
StandsAt claims at whole = slice_get claims at ≡ Some whole

-- an `And` was taken apart
pub record TakesJoined (claims : List Claim) (at : ℕ) (whole : Claim) (next : List Claim) : Type 0 where
  pub stands : StandsAt claims at whole
  pub parts : Claim × Claim
  pub are_parts : parts_of whole ≡ Some parts
  pub is : next ≡ slice_set claims at parts.0 ++ parts.1 ∷ []

-- the way goes by the low side, and the high one is waiting
pub record TakesLow (claims : List Claim) (at : ℕ) (whole other : Claim) (next : List Claim) : Type 0 where
  pub stands : StandsAt claims at whole
  pub sides : Claim × Claim
  pub are_sides : sides_of whole ≡ Some sides
  pub waits : other ≡ sides.1
  pub is : next ≡ slice_set claims at sides.0

-- the way goes by the high side, and the low one is finished
pub record TakesHigh (claims : List Claim) (at : ℕ) (whole : Claim) (low : Proof) (next : List Claim) : Type 0 where
  pub stands : StandsAt claims at whole
  pub sides : Claim × Claim
  pub are_sides : sides_of whole ≡ Some sides
  pub finished : IsFinished (slice_set claims at sides.0) low
  pub is : next ≡ slice_set claims at sides.1

abbrev pub Takes : List Claim → Frame → List Claim → Type 0
Takes claims (Parts at whole) next = TakesJoined claims at (claim_of_piece whole) next
Takes claims (Low at whole other) next = TakesLow claims at (claim_of_piece whole) (claim_of_piece other) next
Takes claims (High at whole low) next = TakesHigh claims at (claim_of_piece whole) (proof_of low) next

-- the way leads from the one list to the other
abbrev pub Lead : List Claim → List Frame → List Claim → Type 0
Lead claims [] last = claims ≡ last
Lead claims (f ∷ frames) last = (next : List Claim) × Takes claims f next × Lead next frames last

-- the turns of the finished sides
abbrev pub frame_turns : Frame → ℕ
frame_turns (Parts at whole) = 0
frame_turns (Low at whole other) = 0
frame_turns (High at whole low) = turns_of (proof_of low)

abbrev pub turns_on : List Frame → ℕ
turns_on [] = 0
turns_on (f ∷ frames) = frame_turns f + turns_on frames

-- Where a decision stands.
use Rattle.std.specs.Prelude.{ℕ, ◌≡◌, ◌+◌, ◌*◌, ◌<◌, ◌≤◌, List, [], ◌∷◌, Option, Some, None}
use Rattle.carol_formula.specs.Claim.{Claim}
use Rattle.carol_cert.specs.Proof.{Proof, proof_of}
use Rattle.carol_cert.specs.Counts.{turns_of}
use Rattle.carol_cert.specs.declared.tree.Refutation.{Refutation}
use Rattle.carol_decide.specs.declared.answer.Answer.{Answer}
use Rattle.carol_decide.specs.declared.frame.Frame.{Frame}
use Rattle.carol_decide.specs.declared.walk.Walk.{Walk}
use Rattle.carol_decide.specs.Sizes.{weight_of, weight_in, IsReady}
use Rattle.carol_decide.specs.Answer.{IsAnswer, Settles}
use Rattle.carol_decide.specs.Finished.{IsFinished, IsOpen}
use Rattle.carol_decide.specs.Piece.{claims_in}
use Rattle.carol_decide.specs.Frames.{Lead, turns_on}

-- a formula that can be decided
pub record IsRoot (claim : Claim) : Type 0 where
  pub ready : IsReady claim
  pub light : weight_of claim ≤ 131072

-- the way leads to the formulas at the place, and no turn is lost
pub record IsAt (claim : Claim) (leaves : ℕ) (w : Walk) : Type 0 where
  pub lead : Lead (claim ∷ []) w.frames.items (claims_in w.pieces.items)
  pub turns : turns_on w.frames.items + w.left ≡ leaves

-- a tree is finished for the place
pub record IsUnder (claim : Claim) (leaves : ℕ) (w : Walk) (tree : Proof) : Type 0 where
  pub lead : Lead (claim ∷ []) w.frames.items (claims_in w.pieces.items)
  pub finished : IsFinished (claims_in w.pieces.items) tree
  pub turns : turns_on w.frames.items + turns_of tree + w.left ≡ leaves

-- a tree with an unclosed leaf stands at the end of the way, and all turns are taken
pub record IsOpenUnder (claim : Claim) (leaves : ℕ) (frames : List Frame) (tree : Proof) : Type 0 where
  pub claims : List Claim
  pub lead : Lead (claim ∷ []) frames claims
  pub is_open : IsOpen claims tree
  pub turns : turns_on frames + turns_of tree ≡ leaves

-- a waiting side is next, or the tree for the whole formula is finished
abbrev pub IsAbove : Claim → ℕ → Walk → Option Refutation → Type 0
IsAbove claim leaves w None = IsAt claim leaves w
IsAbove claim leaves w (Some tree) = IsFinished (claim ∷ []) (proof_of tree) × (turns_of (proof_of tree) + w.left ≡ leaves)

-- how much is left to do: taking a place apart makes it lighter, and no place is heavier than the formula
abbrev pub rank_of : ℕ → Walk → ℕ
rank_of whole w = w.left * (whole + 1) + weight_in (claims_in w.pieces.items)

-- there is less to do at the next place, or the answer is right
abbrev pub Goes : Claim → ℕ → Walk → Walk → Option Answer → Type 0
Goes claim leaves old new None = IsAt claim leaves new × (rank_of (weight_of claim) new < rank_of (weight_of claim) old)
Goes claim leaves old new (Some answer) = IsAnswer claim leaves answer × Settles claim leaves answer

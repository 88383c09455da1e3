-- Where a search stands.
use Rattle.std.specs.Prelude.{ℕ, ◌≡◌, ◌+◌, ◌*◌, ◌||◌, List, [], ◌∷◌, ◌++◌, length, Option, Some, None, IsTrue}
use Rattle.carol_formula.specs.Linear.{Linear}
use Rattle.carol_formula.specs.Claim.{Claim}
use Rattle.carol_cert.specs.declared.step.RowStep.{RowStep}
use Rattle.carol_cert.specs.declared.step.RowStep.TheVariants.{Given}
use Rattle.carol_cert.specs.Proof.{Proof, proof_of}
use Rattle.carol_cert.specs.Counts.{turns_of, has_gap}
use Rattle.carol_cert.specs.declared.tree.Refutation.{Refutation}
use Rattle.carol_elimination.specs.Entries.{terms_of}
use Rattle.carol_cert.specs.Steps.{Closes}
use Rattle.carol_linear.specs.Place.{Shows, with_rows}
use Rattle.carol_linear.specs.Path.{frame_row, frame_rows, turns_on, gap_on, waiting_on, IsRight, ArePath}
use Rattle.carol_linear.specs.Near.{Adds, rows_back, names_back, near_rows, near_names, AreCovering}
use Rattle.carol_linear.specs.Answer.{IsAnswer}
use Rattle.carol_linear.specs.declared.branch.Frame.{Frame}
use Rattle.carol_linear.specs.declared.state.State.{State}
use Rattle.carol_linear.specs.declared.answer.RowsAnswer.{RowsAnswer}

-- what a search began with
pub record Start : Type 0 where
  pub rows : List Linear
  pub names : List RowStep
  pub claims : ℕ
  pub leaves : ℕ

-- the claims have the rows of the start
abbrev pub Begins : Start → List Claim → Type 0
Begins start claims = Shows claims start.rows start.names start.claims

-- the rows of the branches stand near, each behind those before it or in place of one that it covers
pub record Extends (start : Start) (s : State) : Type 0 where
  pub rows : terms_of s.place.rows.items ≡ near_rows start.rows s.frames.items
  pub names : s.place.names.items ≡ near_names start.names start.claims s.frames.items
  pub covering : AreCovering start.rows start.names start.claims s.frames.items
  pub claims : s.claims ≡ start.claims

-- all rows at the place
abbrev pub all_rows : Start → State → List Linear
all_rows start s = start.rows ++ frame_rows s.frames.items

-- the claims at the place
abbrev pub claims_at : List Claim → State → List Claim
claims_at claims s = with_rows claims (frame_rows s.frames.items)

-- a place is to be searched: so many turns were taken, and a leaf was left open only if no turn is left
pub record IsAt (start : Start) (s : State) : Type 0 where
  pub extends : Extends start s
  pub turns : turns_on s.frames.items + s.left ≡ start.leaves
  pub gap : s.has_gap ≡ gap_on s.frames.items
  pub spent : IsTrue s.has_gap → s.left ≡ 0
  pub path : (claims : List Claim) → Begins start claims → ArePath claims s.frames.items

-- a tree is finished for the place
pub record IsUnder (start : Start) (s : State) (tree : Proof) : Type 0 where
  pub extends : Extends start s
  pub turns : turns_on s.frames.items + turns_of tree + s.left ≡ start.leaves
  pub gap : s.has_gap ≡ gap_on s.frames.items || has_gap tree
  pub spent : IsTrue s.has_gap → s.left ≡ 0
  pub path : (claims : List Claim) → Begins start claims → ArePath claims s.frames.items
  pub right : (claims : List Claim) → Begins start claims → IsRight (claims_at claims s) tree

-- ---- steps

-- what a step leaves as it was
pub record Keeps (old new : State) : Type 0 where
  pub claims : new.claims ≡ old.claims
  pub left : new.left ≡ old.left
  pub has_gap : new.has_gap ≡ old.has_gap

-- a branch more
pub record Enters (old new : State) (f : Frame) : Type 0 where
  pub frames : new.frames.items ≡ old.frames.items ++ f ∷ []
  pub adds : Adds old.place new.place (frame_row f) (Given (old.claims + length old.frames.items)) f.covered
  pub keeps : Keeps old new

-- a branch less
pub record Leaves (old new : State) (f : Frame) : Type 0 where
  pub frames : old.frames.items ≡ new.frames.items ++ f ∷ []
  pub rows : new.place.rows.items ≡ rows_back f.covered old.place.rows.items
  pub names : new.place.names.items ≡ names_back f.covered old.place.names.items
  pub keeps : Keeps old new

-- the same side of the same branch, whatever it covers
pub record IsSame (f g : Frame) : Type 0 where
  pub variable : f.variable ≡ g.variable
  pub k : f.k ≡ g.k
  pub low : f.low ≡ g.low

-- the branch is entered as the last one
pub record HasEntered (old new : State) (f : Frame) : Type 0 where
  pub last : Frame
  pub enters : Enters old new last
  pub same : IsSame last f

-- the branch was the last one
pub record HasLeft (old new : State) (f : Frame) : Type 0 where
  pub last : Frame
  pub leaves : Leaves old new last
  pub same : IsSame f last

-- no branch is there, and all is as it was
pub record Stays (old new : State) : Type 0 where
  pub rows : new.place.rows.items ≡ old.place.rows.items
  pub names : new.place.names.items ≡ old.place.names.items
  pub before : old.frames.items ≡ []
  pub after : new.frames.items ≡ []
  pub keeps : Keeps old new

-- the steps close the claims at the place
abbrev pub CloseAt : Start → State → List RowStep → Type 0
CloseAt start s steps = (claims : List Claim) → Begins start claims → Closes (claims_at claims s) steps

-- a high side is to be searched, or the tree for the start is finished
abbrev pub IsAbove : Start → State → Option Refutation → Type 0
IsAbove start s None = IsAt start s
IsAbove start s (Some tree) = IsUnder start s (proof_of tree) × (s.frames.items ≡ [])

-- a place is to be searched, or the answer is right for whatever claims the search began with
abbrev pub IsNext : Start → State → Option RowsAnswer → Type 0
IsNext start s None = IsAt start s
IsNext start s (Some answer) = (claims : List Claim) → Begins start claims → IsAnswer claims start.rows start.leaves answer

-- how much is left to do
abbrev pub rank_of : State → ℕ
rank_of s = 2 * s.left + waiting_on s.frames.items

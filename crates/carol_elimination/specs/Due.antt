-- Branches that are due: no elimination makes an absurd row, and there is no whole number for a variable
-- though its bounds allow a fraction.
use Rattle.std.specs.Prelude.{ℕ, ◌≡◌, ◌⊎◌, true, ◌==◌, MatchBool, MatchOption, List, [], ◌∷◌, ◌++◌, slice_set, ℤ, pos, negsuc, ◌+ℤ◌, ◌≤ℤ◌, ◌<ℤ◌}
use Rattle.carol_formula.specs.Linear.{Linear, scaled}
use Rattle.carol_formula.specs.Value.{value_at, set_at}
use Rattle.carol_formula.specs.Claim.{Claim, True, Le, Eq}
use Rattle.carol_cert.specs.Cases.{at_most_number, at_least_number}
use Rattle.carol_cert.specs.Proof.{Proof, Absurd, Part, Split, Branch, Rows, Unclosed}
use Rattle.carol_cert.specs.Refutes.{parts_at, sides_at}
use Rattle.carol_elimination.specs.Stage.{Among, is_upper, is_lower, least, next, variables, first_stage, IsQuiet}
use Rattle.carol_elimination.specs.Values.{IsTrueRow, Allow, AreChosen}

-- the bounds of the variable allow a fraction, but no whole number
pub record HasNoWhole (x : ℕ) (rows : List Linear) (f : ℕ → ℤ) : Type 0 where
  pub fraction : (u l : Linear) → Among u rows → is_upper x u ≡ true → Among l rows → is_lower x l ≡ true → IsTrueRow f (least x u l)
  pub no_whole : (z : ℤ) → ¬ Allow x rows f z

-- k is the floor of the variable's greatest lower bound: no row bounds it by k + 1 or more, and one bounds
-- it by k or more
pub record IsFloor (x : ℕ) (rows : List Linear) (f : ℕ → ℤ) (k : ℤ) : Type 0 where
  pub below : (l : Linear) → Among l rows → is_lower x l ≡ true → value_at l (set_at x (k +ℤ pos 1) f) <ℤ pos 0
  pub reached : (l : Linear) × Among l rows × (is_lower x l ≡ true) × (pos 0 ≤ℤ value_at l (set_at x k f))

-- at the stage of x, which is one of the variables, those after it have chosen values, and there is no
-- value for x
abbrev pub IsStuck : ℕ → ℤ → (ℕ → ℤ) → List ℕ → List Linear → Type 0
IsStuck x k f [] rows = ⊥
IsStuck x k f (v ∷ vs) rows = MatchBool (x == v) (HasNoWhole x rows f × IsFloor x rows f k × AreChosen vs (next x rows) f) (IsStuck x k f vs (next v rows))

-- a branch on x at k is due for the rows
pub record IsDueFor (rows : List Linear) (x : ℕ) (k : ℤ) : Type 0 where
  pub quiet : IsQuiet rows
  pub numbers : ℕ → ℤ
  pub stuck : IsStuck x k numbers (variables rows) (first_stage rows)

-- ---- at a place of a tree

-- the rows at a place: of an `Eq` both readings
abbrev pub rows_at : List Claim → List Linear
rows_at [] = []
rows_at (Le t ∷ claims) = t ∷ rows_at claims
rows_at (Eq t ∷ claims) = t ∷ scaled (negsuc 0) t ∷ rows_at claims
rows_at (_ ∷ claims) = rows_at claims

-- no claim is `False` or is to be taken apart
abbrev pub AreRows : List Claim → Type 0
AreRows [] = Unit {0}
AreRows (True ∷ claims) = AreRows claims
AreRows (Le t ∷ claims) = AreRows claims
AreRows (Eq t ∷ claims) = AreRows claims
AreRows (_ ∷ claims) = ⊥

pub record IsDue (claims : List Claim) (x : ℕ) (k : ℤ) : Type 0 where
  pub rows : AreRows claims
  pub due : IsDueFor (rows_at claims) x k

-- each branch of the tree is due at its place
abbrev pub BranchesAreDue : Proof → List Claim → Type 0
BranchesAreDue (Absurd at) claims = Unit {0}
BranchesAreDue (Part at rest) claims = MatchOption (parts_at claims at) (Unit {0}) (λ p. BranchesAreDue rest (slice_set claims at p.0 ++ p.1 ∷ []))
BranchesAreDue (Split at left right) claims = MatchOption (sides_at claims at) (Unit {0}) (λ p. BranchesAreDue left (slice_set claims at p.0) × BranchesAreDue right (slice_set claims at p.1))
BranchesAreDue (Branch x k low high) claims = IsDue claims x k × BranchesAreDue low (claims ++ at_most_number x k ∷ []) × BranchesAreDue high (claims ++ at_least_number x (k +ℤ pos 1) ∷ [])
BranchesAreDue (Rows steps) claims = Unit {0}
BranchesAreDue Unclosed claims = Unit {0}

-- ---- branch rows of a reason

-- the row of one side of a branch on x at k
abbrev pub IsSide : ℕ → ℤ → Linear → Type 0
IsSide x k r = (Le r ≡ at_most_number x k) ⊎ (Le r ≡ at_least_number x (k +ℤ pos 1))

-- each of the rows is a side of a branch that is due for all rows before it
abbrev pub ComeFromDue : List Linear → List Linear → Type 0
ComeFromDue before [] = Unit {0}
ComeFromDue before (r ∷ rows) = ((x : ℕ) × (k : ℤ) × IsDueFor before x k × IsSide x k r) × ComeFromDue (before ++ r ∷ []) rows

-- What each answer to a list of rows says.
use Rattle.std.specs.Prelude.{ℕ, ◌≡◌, ◌≤◌, List, ◌++◌}
use Rattle.carol_formula.specs.Linear.{Linear}
use Rattle.carol_formula.specs.Numbers.{number_at}
use Rattle.carol_formula.specs.Claim.{Claim}
use Rattle.carol_cert.specs.Proof.{Proof, proof_of}
use Rattle.carol_cert.specs.Refutes.{Refutes}
use Rattle.carol_cert.specs.Counts.{turns_of, IsUnfinished}
use Rattle.carol_elimination.specs.Due.{BranchesAreDue, ComeFromDue}
use Rattle.carol_elimination.specs.Reasons.{IsWidePair}
use Rattle.carol_elimination.specs.Entries.{terms_of}
use Rattle.carol_elimination.specs.Choosing.{IsDerivedBy, AreMet}
use Rattle.carol_elimination.specs.Choosing.{IsFar as IsFarRow}
use Rattle.carol_linear.specs.declared.answer.Derived.{Derived}
use Rattle.carol_linear.specs.declared.answer.RowsAnswer.{RowsAnswer}
use Rattle.carol_linear.specs.declared.answer.RowsAnswer.TheVariants.{Refuted, Model, Spent, Wide, Far}
use Rattle.carol_linear.specs.declared.answer.Wide.{Wide as WideReason}
use Rattle.carol_linear.specs.declared.answer.Far.{Far as FarReason}

-- the tree refutes the claims in at most so many turns, and its branches are due
pub record IsRefuted (claims : List Claim) (leaves : ℕ) (tree : Proof) : Type 0 where
  pub refutes : Refutes tree claims
  pub turns : turns_of tree ≤ leaves
  pub due : BranchesAreDue tree claims

-- the tree is right as far as it goes and leaves something open, has exactly so many turns, and its
-- branches are due
pub record IsSpent (claims : List Claim) (leaves : ℕ) (tree : Proof) : Type 0 where
  pub unfinished : IsUnfinished tree claims
  pub turns : turns_of tree ≡ leaves
  pub due : BranchesAreDue tree claims

-- the steps derive the row of these rows
abbrev pub IsDerived : List Linear → Derived → Type 0
IsDerived rows d = IsDerivedBy rows d.steps d.row.0

-- two rows that are derived from the rows and the branch rows have no narrow combination, and the branch
-- rows come from due branches
pub record IsWide (rows : List Linear) (w : WideReason) : Type 0 where
  pub branches : ComeFromDue rows (terms_of w.branches)
  pub upper : IsDerived (rows ++ terms_of w.branches) w.upper
  pub lower : IsDerived (rows ++ terms_of w.branches) w.lower
  pub wide : IsWidePair w.variable w.upper.row.0 w.lower.row.0

-- a row that is derived from the rows and the branch rows is not within 2 ^ 100 under the values, which were
-- chosen, and the branch rows come from due branches
pub record IsFar (rows : List Linear) (f : FarReason) : Type 0 where
  pub branches : ComeFromDue rows (terms_of f.branches)
  pub far : IsFarRow (rows ++ terms_of f.branches) f.row.steps f.row.row.0 (number_at f.values)

-- the answer is right for the claims with these rows and for so many turns
abbrev pub IsAnswer : List Claim → List Linear → ℕ → RowsAnswer → Type 0
IsAnswer claims rows leaves (Refuted tree) = IsRefuted claims leaves (proof_of tree)
IsAnswer claims rows leaves (Model v) = AreMet (number_at v) rows
IsAnswer claims rows leaves (Spent tree) = IsSpent claims leaves (proof_of tree)
IsAnswer claims rows leaves (Wide w) = IsWide rows w
IsAnswer claims rows leaves (Far f) = IsFar rows f

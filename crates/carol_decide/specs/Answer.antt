-- What each answer to a formula says.
use Rattle.std.specs.Prelude.{ℕ, ◌≤◌, List, [], ◌∷◌, ℤ, IsTrue}
use Rattle.carol_formula.specs.Numbers.{number_at}
use Rattle.carol_formula.specs.Claim.{Claim, truth, cases_of}
use Rattle.carol_cert.specs.Proof.{Proof, proof_of}
use Rattle.carol_cert.specs.Refutes.{Refutes}
use Rattle.carol_cert.specs.Counts.{turns_of}
use Rattle.carol_elimination.specs.Due.{rows_at}
use Rattle.carol_linear.specs.Answer.{IsSpent, IsWide, IsFar}
use Rattle.carol_linear.specs.declared.answer.Wide.{Wide as WideReason}
use Rattle.carol_linear.specs.declared.answer.Far.{Far as FarReason}
use Rattle.carol_decide.specs.declared.answer.TheConstants.{MOST_LEAVES}
use Rattle.carol_decide.specs.declared.answer.Answer.{Answer}
use Rattle.carol_decide.specs.declared.answer.Answer.TheVariants.{Unsat, Sat, Undecided}
use Rattle.carol_decide.specs.declared.answer.Why.{Why}
use Rattle.carol_decide.specs.declared.answer.Why.TheVariants.{Leaves, Wide, Far}
use Rattle.carol_decide.specs.Sizes.{OfDifferences}
use Rattle.carol_decide.specs.Makes.{Makes}
use Rattle.carol_decide.specs.Case.{IsCaseOf}

-- the tree refutes the formula in at most so many turns
pub record IsUnsat (claim : Claim) (leaves : ℕ) (tree : Proof) : Type 0 where
  pub refutes : Refutes tree (claim ∷ [])
  pub turns : turns_of tree ≤ leaves

-- the formula is true of the numbers, and the terms of a case that is true can be added up
pub record IsSat (claim : Claim) (f : ℕ → ℤ) : Type 0 where
  pub holds : IsTrue (truth claim f)
  pub fits : Makes f claim

-- the reason is one for the rows of a case of the formula
pub record IsWideCase (claim : Claim) (w : WideReason) : Type 0 where
  pub case : List Claim
  pub is_case : IsCaseOf (claim ∷ []) case
  pub wide : IsWide (rows_at case) w

pub record IsFarCase (claim : Claim) (f : FarReason) : Type 0 where
  pub case : List Claim
  pub is_case : IsCaseOf (claim ∷ []) case
  pub far : IsFar (rows_at case) f

abbrev pub IsWhy : Claim → ℕ → Why → Type 0
IsWhy claim leaves (Leaves tree) = IsSpent (claim ∷ []) leaves (proof_of tree)
IsWhy claim leaves (Wide w) = IsWideCase claim w
IsWhy claim leaves (Far f) = IsFarCase claim f

-- the decision of a formula of a program ends for this reason; the formula isn't one of differences with
-- few enough cases
pub record IsStuck (claim : Claim) (why : Why) : Type 0 where
  pub kept : IsWhy claim MOST_LEAVES why
  pub beyond : OfDifferences claim → cases_of claim ≤ MOST_LEAVES → ⊥

-- the answer is right for the formula and for so many turns
abbrev pub IsAnswer : Claim → ℕ → Answer → Type 0
IsAnswer claim leaves (Unsat tree) = IsUnsat claim leaves (proof_of tree)
IsAnswer claim leaves (Sat v) = IsSat claim (number_at v)
IsAnswer claim leaves (Undecided why) = IsWhy claim leaves why

abbrev pub IsDecided : Answer → Type 0
IsDecided (Unsat tree) = Unit {0}
IsDecided (Sat v) = Unit {0}
IsDecided (Undecided why) = ⊥

-- a formula of differences is decided where there are as many turns as it has cases
abbrev pub Settles : Claim → ℕ → Answer → Type 0
Settles claim leaves answer = OfDifferences claim → cases_of claim ≤ leaves → IsDecided answer

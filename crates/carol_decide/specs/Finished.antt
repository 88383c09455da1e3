-- Trees that are finished for the list of formulas at a place.
use Rattle.std.specs.Prelude.{◌≤◌, List}
use Rattle.carol_formula.specs.Claim.{Claim}
use Rattle.carol_cert.specs.Proof.{Proof}
use Rattle.carol_cert.specs.Refutes.{Refutes}
use Rattle.carol_cert.specs.Counts.{turns_of, IsUnfinished}
use Rattle.carol_elimination.specs.Due.{BranchesAreDue}
use Rattle.carol_decide.specs.Sizes.{cases_in, AreOfDifferences}

-- the tree refutes the list, its branches are due, and among differences it takes no turn more than the list
-- has cases
pub record IsFinished (claims : List Claim) (tree : Proof) : Type 0 where
  pub refutes : Refutes tree claims
  pub due : BranchesAreDue tree claims
  pub short : AreOfDifferences claims → turns_of tree ≤ cases_in claims

-- the tree is right as far as it goes, some leaf is unclosed, and its branches are due
pub record IsOpen (claims : List Claim) (tree : Proof) : Type 0 where
  pub unfinished : IsUnfinished tree claims
  pub due : BranchesAreDue tree claims

-- The rows at a place, and what is found of them.
use Rattle.std.specs.Prelude.{ℕ, ◌≡◌, ◌+◌, ◌*◌, ◌≤◌, List, [], ◌∷◌, ◌++◌, length, map, Option, Some, None}
use Rattle.std.specs.List.{All}
use Rattle.carol_formula.specs.Numbers.{number_at}
use Rattle.carol_formula.specs.Linear.{Linear}
use Rattle.carol_formula.specs.declared.term.Row.{Row}
use Rattle.carol_formula.specs.Claim.{Claim, Le, Eq}
use Rattle.carol_cert.specs.Steps.{Closes}
use Rattle.carol_cert.specs.declared.step.RowStep.{RowStep}
use Rattle.carol_cert.specs.declared.step.RowStep.TheVariants.{Given, Reversed}
use Rattle.carol_cert.specs.Proof.{Proof, proof_of}
use Rattle.carol_cert.specs.Counts.{turns_of}
use Rattle.carol_difference.specs.Rows.{IsDifference, IsNarrow}
use Rattle.carol_difference.specs.Decision.{IsDecision}
use Rattle.carol_difference.specs.declared.DiffAnswer.{DiffAnswer}
use Rattle.carol_elimination.specs.Due.{rows_at}
use Rattle.carol_elimination.specs.Entries.{terms_of}
use Rattle.carol_linear.specs.Names.{AreNamed}
use Rattle.carol_linear.specs.Answer.{IsSpent}
use Rattle.carol_decide.specs.declared.table.Table.{Table}
use Rattle.carol_decide.specs.declared.attempt.Tried.{Tried}
use Rattle.carol_decide.specs.declared.attempt.Tried.TheVariants.{Refuted, Numbers, Nothing}
use Rattle.carol_decide.specs.declared.found.Found.{Found}
use Rattle.carol_decide.specs.declared.found.Found.TheVariants.{Closed, Model, Spent, Wide, Far}
use Rattle.carol_decide.specs.Sizes.{AreOfDifferences}
use Rattle.carol_decide.specs.Makes.{Makes}
use Rattle.carol_decide.specs.Answer.{IsWideCase, IsFarCase}
use Rattle.carol_decide.specs.Finished.{IsFinished}

-- the steps that take the rows of a claim with a number, of an `Eq` both readings
abbrev pub own_names : ℕ → Claim → List RowStep
own_names at (Le t) = Given at ∷ []
own_names at (Eq t) = Given at ∷ Reversed at ∷ []
own_names at _ = []

-- those of all claims, the first of which has number `at`
abbrev pub names_from : ℕ → List Claim → List RowStep
names_from at [] = []
names_from at (c ∷ claims) = own_names at c ++ names_from (at + 1) claims

-- the rows of the claims, each with the name that takes it from them
pub record IsTableOf (claims : List Claim) (t : Table) : Type 0 where
  pub named : AreNamed claims t.names.items (terms_of t.rows.items)
  pub same : rows_at claims ≡ terms_of t.rows.items
  pub narrow : All IsNarrow t.rows.items
  pub few : length t.rows.items ≤ 2 * length claims
  pub differences : AreOfDifferences claims → All IsDifference t.rows.items

-- the rows can't be true together, or there are numbers to be tried
abbrev pub IsTried : List Linear → Tried → Type 0
IsTried rows (Refuted steps) = Closes (map Le rows) steps
IsTried rows (Numbers v) = Unit {0}
IsTried rows Nothing = Unit {0}

-- rows that aren't all rows of differences have no answer
abbrev pub IsDifferenceAnswer : List Row → Option DiffAnswer → Type 0
IsDifferenceAnswer rows None = ¬ All IsDifference rows
IsDifferenceAnswer rows (Some answer) = IsDecision rows answer

-- what is found at a place, of which the turns that are left are known
pub record IsClosed (claims : List Claim) (left : ℕ) (tree : Proof) (turns : ℕ) : Type 0 where
  pub finished : IsFinished claims tree
  pub count : turns ≡ turns_of tree
  pub some : 1 ≤ turns
  pub enough : turns ≤ left

abbrev pub IsFound : Claim → List Claim → ℕ → Found → Type 0
IsFound claim claims left (Closed tree turns) = IsClosed claims left (proof_of tree) turns
IsFound claim claims left (Model v) = Makes (number_at v) claim
IsFound claim claims left (Spent tree) = IsSpent claims left (proof_of tree) × ¬ AreOfDifferences claims
IsFound claim claims left (Wide w) = IsWideCase claim w × ¬ AreOfDifferences claims
IsFound claim claims left (Far f) = IsFarCase claim f × ¬ AreOfDifferences claims

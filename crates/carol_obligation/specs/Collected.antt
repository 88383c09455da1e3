-- The obligations of a body, with what is known where it begins.
use Rattle.std.specs.Prelude.{ℕ, ◌+◌, Bool, true, false, List, [], ◌∷◌, ◌++◌, Option, Some, None, slice_get}
use Rattle.carol_store.specs.declared.shape.CellKind.{CellKind}
use Rattle.carol_store.specs.declared.shape.CellKind.TheVariants.{Counter, Peak, Flag}
use Rattle.carol_formula.specs.Claim.{Claim}
use Rattle.carol_program.specs.declared.places.Place.{Place}
use Rattle.carol_program.specs.declared.places.Place.TheVariants as place
use Rattle.carol_program.specs.declared.steps.Part.{Part}
use Rattle.carol_program.specs.Bodies.{Body, Query, Issue, Release, Branch, Return}
use Rattle.carol_program.specs.Rules.{Rules, OpRules}
use Rattle.carol_obligation.specs.Sites.{Amount, After, Gives}
use Rattle.carol_obligation.specs.Formed.{with_query, with_closing, with_test, owed}

-- where a body begins: the operation and its number, what is known before the round, the round, and
-- whether it has a query
pub record Point : Type 0 where
  pub op : OpRules
  pub number : ℕ
  pub known : Claim
  pub round : ℕ
  pub asked : Bool

-- the same with more that is known
abbrev pub knowing : Point → Claim → Point
knowing at known = record { op = at.op; number = at.number; known = known; round = at.round; asked = at.asked }

-- behind a query, a closing and a test
abbrev pub behind_query : Rules → Point → ℕ → ℕ → Point
behind_query p at guard slot = record { op = at.op; number = at.number; known = with_query p guard slot at.round at.known; round = at.round; asked = true }

abbrev pub behind_closing : Rules → Point → Point
behind_closing p at = record { op = at.op; number = at.number; known = with_closing p at.asked at.round at.known; round = at.round + 1; asked = false }

abbrev pub behind_test : Point → Claim → Bool → Point
behind_test at test side = knowing at (with_test test side at.known)

-- the obligation of an amount of a cell of this kind
abbrev pub bounded_owed : Rules → Point → ℕ → ℕ → Part → CellKind → List (Place × Claim)
bounded_owed p at number atom part kind = (place.Amount at.number number atom, owed p at.op at.round (Amount atom kind part) at.known) ∷ []

-- the same, unless it is set in a flag
abbrev pub amount_owed : Rules → Point → ℕ → ℕ → Part → Option CellKind → List (Place × Claim)
amount_owed p at number atom part None = []
amount_owed p at number atom part (Some Flag) = []
amount_owed p at number atom part (Some Counter) = bounded_owed p at number atom part Counter
amount_owed p at number atom part (Some Peak) = bounded_owed p at number atom part Peak

abbrev pub amounts_owed : Rules → Point → ℕ → ℕ → List Part → List (Place × Claim)
amounts_owed p at number atom [] = []
amounts_owed p at number atom (part ∷ parts) =
    amount_owed p at number atom part (slice_get p.shape part.cell) ++ amounts_owed p at number (atom + 1) parts

abbrev pub issue_owed : Rules → Point → ℕ → List Part → List (Place × Claim)
issue_owed p at number parts =
    amounts_owed p at number 1 parts ++ (place.Invariant at.number number, owed p at.op at.round (After parts) at.known) ∷ []

-- the obligations of a body that begins there
abbrev pub collected : Rules → Point → Body → List (Place × Claim)
collected p at (Query number guard slot next) = collected p (behind_query p at guard slot) next
collected p at (Issue number parts next) = issue_owed p at number parts ++ collected p (behind_closing p at) next
collected p at (Release number next) = collected p (behind_closing p at) next
collected p at (Branch number test first second) =
    collected p (behind_test at test true) first ++ collected p (behind_test at test false) second
collected p at (Return number value) = (place.Outcome at.number number, owed p at.op at.round (Gives value) at.known) ∷ []

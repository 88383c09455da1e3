-- Ways through a body: what lies between its beginning and a place of it, the latest first.
use Rattle.std.specs.Prelude.{ℕ, ◌+◌, Bool, true, false, List, [], ◌∷◌}
use Rattle.carol_formula.specs.Claim.{Claim}
use Rattle.carol_program.specs.declared.steps.Part.{Part}

-- one thing on a way: a query under a guard into a slot, an issue of these parts, a release, or a test
-- that comes out true or false
pub data Leg : Type 0 where
  Asks : (guard slot : ℕ) → Leg
  Puts : (parts : List Part) → Leg
  Frees : Leg
  Tests : (test : Claim) (side : Bool) → Leg

abbrev pub Way : Type 0
Way = List Leg

-- how many rounds are over on the way
abbrev pub rounds_of : Way → ℕ
rounds_of [] = 0
rounds_of (Asks guard slot ∷ way) = rounds_of way
rounds_of (Puts parts ∷ way) = rounds_of way + 1
rounds_of (Frees ∷ way) = rounds_of way + 1
rounds_of (Tests test side ∷ way) = rounds_of way

-- whether the round that is open has a query
abbrev pub has_query : Way → Bool
has_query [] = false
has_query (Asks guard slot ∷ way) = true
has_query (Puts parts ∷ way) = false
has_query (Frees ∷ way) = false
has_query (Tests test side ∷ way) = has_query way

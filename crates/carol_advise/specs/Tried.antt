-- An operation that is tried under an assignment of guards.
use Rattle.std.specs.Prelude.{◌≡◌, ℕ, List, [], ◌∷◌, ℤ, length, map, Some, slice_get}
use Rattle.carol_formula.specs.Numbers.{number_at}
use Rattle.carol_program.specs.declared.places.Place.{Place}
use Rattle.carol_program.specs.declared.program.Program.{Program}
use Rattle.carol_program.specs.Rules.{Rules, OpRules, rules_in}
use Rattle.carol_obligation.specs.Spots.{Spot, spots_from}
use Rattle.carol_reading.specs.Good.{IsGood}
use Rattle.carol_typecheck.specs.First.{First}
use Rattle.carol_typecheck.specs.Readings.{IsBroken, IsDoubtful, IsSafe}
use Rattle.carol_decide.specs.declared.answer.Why.{Why}
use Rattle.carol_advise_guards.specs.Under.{op_under}
use Rattle.carol_advise.specs.declared.answer.Rejected.{Rejected}

-- the operation with these guards in its queries is good
abbrev pub IsGoodUnder : Rules → OpRules → List ℕ → Type 0
IsGoodUnder p op gs = IsGood p (op_under gs op)

-- its places, where the operation has this number
abbrev pub spots_under : Rules → ℕ → OpRules → List ℕ → List Spot
spots_under p number op gs = spots_from p number (op_under gs op ∷ [])

-- the numbers are a breach at the place, and no place before it has one
abbrev pub IsBrokenUnder : Rules → ℕ → OpRules → List ℕ → Place → (ℕ → ℤ) → Type 0
IsBrokenUnder p number op gs place f = First (IsSafe p) (IsBroken p place f) (spots_under p number op gs)

-- it stays unclear for this reason whether the place has a breach, and no place before it has one
abbrev pub IsDoubtfulUnder : Rules → ℕ → OpRules → List ℕ → Place → Why → Type 0
IsDoubtfulUnder p number op gs place why = First (IsSafe p) (IsDoubtful p place why) (spots_under p number op gs)

-- there is such a place with such numbers
abbrev pub HasBreach : Rules → ℕ → OpRules → List ℕ → Type 0
HasBreach p number op gs = (place : Place) × (f : ℕ → ℤ) × IsBrokenUnder p number op gs place f

abbrev pub IsRejected : Rules → ℕ → OpRules → Rejected → Type 0
IsRejected p number op r = IsBrokenUnder p number op r.guards r.place (number_at r.at)

-- the assignments that are rejected
abbrev pub guards_of : List Rejected → List (List ℕ)
guards_of rejected = map (λ r. r.guards) rejected

-- so it is of the program's operation with this number
abbrev pub OfOp : Program → ℕ → (OpRules → Type 0) → Type 0
OfOp program number P = (op : OpRules) → slice_get (rules_in program).ops number ≡ Some op → P op

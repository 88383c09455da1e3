-- The verdict on a program, in terms of what its operations may do.
use Rattle.std.specs.Prelude.{◌≡◌, ℕ, false, List, ℤ}
use Rattle.std.specs.List.{AllByRecursion}
use Rattle.carol_formula.specs.Claim.{without_not}
use Rattle.carol_formula.specs.Numbers.{number_at}
use Rattle.carol_program.specs.declared.places.Place.{Place}
use Rattle.carol_program.specs.Rules.{Rules, OpRules}
use Rattle.carol_reading.specs.Good.{IsGood}
use Rattle.carol_obligation.specs.Breaches.{IsBreach}
use Rattle.carol_obligation.specs.Formed.{obligation_at}
use Rattle.carol_obligation.specs.GoodLaw.{HasNoBreach}
use Rattle.carol_obligation.specs.Spots.{Spot, place_at, spots_from}
use Rattle.carol_obligation.specs.TruthLaw.{IsExact}
use Rattle.carol_decide.specs.Answer.{IsStuck}
use Rattle.carol_decide.specs.declared.answer.Why.{Why}
use Rattle.carol_typecheck.specs.declared.verdict.Verdict.{Verdict}
use Rattle.carol_typecheck.specs.declared.verdict.Verdict.TheVariants.{Good, Fails, Undecided}
use Rattle.carol_typecheck.specs.First.{First}

abbrev pub AreAllGood : Rules → List OpRules → Type 0
AreAllGood p ops = AllByRecursion (IsGood p) ops

abbrev pub AreGood : Rules → Type 0
AreGood p = AreAllGood p p.ops

-- no numbers are a breach there
abbrev pub IsSafe : Rules → Spot → Type 0
IsSafe p s = HasNoBreach p s.op s.site

-- it is this place, and the numbers are a breach there
abbrev pub IsBroken : Rules → Place → (ℕ → ℤ) → Spot → Type 0
IsBroken p place f s = (place_at s ≡ place) × IsBreach p s.op s.site f

-- the place's formula is false of exactly the breaches there, and the decision of its denial ends for
-- this reason
pub record IsUnclear (p : Rules) (s : Spot) (why : Why) : Type 0 where
  pub exact : IsExact p s.op s.site
  pub stuck : IsStuck (without_not false (obligation_at p s.op s.site)) why

-- it is this place, and it stays unclear whether there is a breach
abbrev pub IsDoubtful : Rules → Place → Why → Spot → Type 0
IsDoubtful p place why s = (place_at s ≡ place) × IsUnclear p s why

-- every one of these operations is good, or there is no breach at any place before this one; the first of
-- them has the number
abbrev pub IsVerdictOver : Rules → ℕ → List OpRules → Verdict → Type 0
IsVerdictOver p number ops Good = AreAllGood p ops
IsVerdictOver p number ops (Fails place at) = First (IsSafe p) (IsBroken p place (number_at at)) (spots_from p number ops)
IsVerdictOver p number ops (Undecided place why) = First (IsSafe p) (IsDoubtful p place why) (spots_from p number ops)

-- the verdict on all operations of the program
abbrev pub IsVerdictFor : Rules → Verdict → Type 0
IsVerdictFor p v = IsVerdictOver p 0 p.ops v

-- a breach was found
abbrev pub IsFailure : Verdict → Type 0
IsFailure Good = ⊥
IsFailure (Fails place at) = Unit {0}
IsFailure (Undecided place why) = ⊥

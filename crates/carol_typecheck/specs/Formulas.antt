-- The verdict on formulas of places.
use Rattle.std.specs.Prelude.{◌≡◌, ℕ, true, false, List, ℤ}
use Rattle.std.specs.List.{AllByRecursion}
use Rattle.carol_formula.specs.Claim.{Claim, truth, without_not}
use Rattle.carol_formula.specs.Numbers.{number_at}
use Rattle.carol_program.specs.declared.places.Place.{Place}
use Rattle.carol_decide.specs.Answer.{IsStuck}
use Rattle.carol_decide.specs.declared.answer.Why.{Why}
use Rattle.carol_typecheck.specs.declared.verdict.Verdict.{Verdict}
use Rattle.carol_typecheck.specs.declared.verdict.Verdict.TheVariants.{Good, Fails, Undecided}
use Rattle.carol_typecheck.specs.First.{First}

-- the formula is true of any numbers
abbrev pub IsValid : Claim → Type 0
IsValid c = (f : ℕ → ℤ) → truth c f ≡ true

-- the formula of the place is valid
abbrev pub IsProved : Place × Claim → Type 0
IsProved o = IsValid o.1

-- it is this place, and its formula is false of the numbers
abbrev pub IsRefuted : Place → (ℕ → ℤ) → Place × Claim → Type 0
IsRefuted place f o = (o.0 ≡ place) × (truth o.1 f ≡ false)

-- it is this place, and the decision of its formula's denial ends for this reason
abbrev pub IsLeft : Place → Why → Place × Claim → Type 0
IsLeft place why o = (o.0 ≡ place) × IsStuck (without_not false o.1) why

-- the verdict tells of the first place whose formula isn't proved
abbrev pub IsVerdictOn : List (Place × Claim) → Verdict → Type 0
IsVerdictOn list Good = AllByRecursion IsProved list
IsVerdictOn list (Fails place at) = First IsProved (IsRefuted place (number_at at)) list
IsVerdictOn list (Undecided place why) = First IsProved (IsLeft place why) list

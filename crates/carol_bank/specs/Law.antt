-- The bank of the large inputs is accepted.
use Rattle.std.specs.Prelude.{◌≡◌, ℕ, ℤ}
use Rattle.carol_program.specs.declared.places.Place.{Place}
use Rattle.carol_reading.specs.Good.{IsAccepted}
use Rattle.carol_decide.specs.declared.answer.Why.{Why}
use Rattle.carol_accord.specs.Inferred.{IsNotReflexive, IsOpenAt}
use Rattle.carol_typecheck.specs.Readings.{IsVerdictFor}
use Rattle.carol_typecheck.specs.declared.verdict.Verdict.{Verdict}
use Rattle.carol_typecheck.specs.declared.verdict.Verdict.TheVariants.{Good}
use Rattle.carol_meaning.specs.Programs.{rules_of}
use Rattle.carol_generator.specs.Generated.{bank}

-- it is accepted; no numbers break its guard at equal stores, nothing that is asked of the guard
-- stays open, and no other verdict on its operations is right
pub record BankIsAccepted : Type 0 where
  pub accepted : IsAccepted (rules_of bank)
  pub guards : (number : ℕ) (f : ℕ → ℤ) → ¬ IsNotReflexive (rules_of bank) number f
  pub accords : (place : Place) (why : Why) → ¬ IsOpenAt (rules_of bank) place why
  pub verdict : (v : Verdict) → IsVerdictFor (rules_of bank) v → v ≡ Good

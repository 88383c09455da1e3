-- That nothing stays open of a program that asks of differences alone.
use Rattle.std.proofs.Common.{ℕ, List, [], ◌∷◌, ◌++◌, subst, inl, inr}
use Rattle.std.specs.List.{AllByRecursion}
use Rattle.carol_accord.specs.Inferred.{ComesTo, IsOpenAt, step_of}
use Rattle.carol_complete.specs.Differences.{AsksDifferences, AsksPlainly, DifferencesAreDecided, IsPlain, OwesPlainly}
use Rattle.carol_decide.specs.Answer.{IsStuck}
use Rattle.carol_decide.specs.declared.answer.Why.{Why}
use Rattle.carol_formula.specs.Claim.{Claim}
use Rattle.carol_obligation.specs.Spots.{Spot, spots_of}
use Rattle.carol_program.specs.declared.places.Place.{Place}
use Rattle.carol_program.specs.declared.places.Place.TheVariants.{Reflexive, Accord}
use Rattle.carol_program.specs.Rules.{Rules}
use Rattle.carol_typecheck.specs.First.{First}
use Rattle.carol_typecheck.specs.Readings.{IsDoubtful, IsSafe}

all_at : {A : Type 0} (P : A → Type 0) (before after : List A) (x : A) → AllByRecursion P (before ++ x ∷ after) → P x
all_at P [] after x h = h.0
all_at P (y ∷ before) after x h = all_at P before after x h.1

never_stuck : (claim : Claim) (why : Why) → IsPlain claim → IsStuck claim why → ⊥
never_stuck claim why plain stuck = stuck.beyond plain.differences plain.few

guard_asks : (p : Rules) (number : ℕ) (guard : Claim) → AsksDifferences p → ComesTo p number guard → AsksPlainly p.shape guard
guard_asks p number guard asks at =
    all_at (AsksPlainly p.shape) at.earlier at.later guard (subst (AllByRecursion (AsksPlainly p.shape)) at.order asks.guards)

never_open : (p : Rules) → AsksDifferences p → (place : Place) (why : Why) → IsOpenAt p place why → ⊥
never_open p asks (Reflexive number) why h = never_stuck _ why (guard_asks p number h.guard asks h.first).equal h.reason.stuck
never_open p asks (Accord number cell up) why h =
    never_stuck _ why ((guard_asks p number h.guard asks h.first).steps (step_of cell up) h.reason.kind h.reason.of_kind) h.reason.reason.stuck
never_open p asks place why h = absurd h

never_doubtful : (p : Rules) (place : Place) (why : Why) (spots : List Spot) → AllByRecursion (OwesPlainly p) spots → First (IsSafe p) (IsDoubtful p place why) spots → ⊥
never_doubtful p place why [] plain h = absurd h
never_doubtful p place why (spot ∷ spots) plain (inl h) = never_stuck _ why plain.0 h.1.stuck
never_doubtful p place why (spot ∷ spots) plain (inr h) = never_doubtful p place why spots plain.1 h.1

pub differences_are_decided : DifferencesAreDecided
differences_are_decided p asks = record {
  guards = never_open p asks;
  operations = λ place why. never_doubtful p place why (spots_of p) asks.places;
}

-- The test that every command is done.
use Rattle.std.proofs.Common.{◌≡◌, ℕ, ◌+◌, ◌≤◌, zero, suc, Bool, true, eq-eqb, ◌==◌, List, [], ◌∷◌, length, refl, ap, arith}
use Rattle.std.specs.Prelude.{◌↔◌, not, nat_le, Some, None, slice_get}
use Rattle.std.proofs.lemmas.Bool.{and_parts, le-leb, leb-true}
use Rattle.std.proofs.lemmas.Bool.Decides.{same_from_decides}
use Rattle.carol_program.specs.declared.scenes.Scene.{Scene}
use Rattle.carol_program.specs.declared.scenes.SessionPlan.{SessionPlan}
use Rattle.carol_event.specs.declared.event.Event.{Event}
use Rattle.carol_history.specs.declared.history.TheConstants.{MOST_EVENTS}
use Rattle.carol_history.specs.Acts.{acts}
use Rattle.carol_history.specs.Results.{AreDone, outcomes}
use Rattle.carol_report.specs.Report.{are_done, is_full}

-- each command of these sessions is done, of which the first has this number
abbrev EachDone : Scene → ℕ → List SessionPlan → List Event → Type 0
EachDone scene first plans past = (i n : ℕ) (plan : SessionPlan) → n ≡ first + i → slice_get plans i ≡ Some plan →
    length plan.commands ≤ length (outcomes scene.tries (acts n past))

each_done : (scene : Scene) (first : ℕ) (plans : List SessionPlan) (past : List Event) → are_done scene first plans past ≡ true → EachDone scene first plans past
each_done scene first [] past h i n plan is at = absurd (nothing at)
  where
    nothing : None ≡ Some plan → ⊥
    nothing e = cc
each_done scene first (p ∷ plans) past h zero n plan is at =
    let both = and_parts (nat_le (length p.commands) (length (outcomes scene.tries (acts first past)))) (are_done scene (first + 1) plans past) h
    in let here : n ≡ first = omega arith
    in let same : p ≡ plan = cc
    in rw (here, ← same) (leb-true (length p.commands) (length (outcomes scene.tries (acts first past))) both.0)
each_done scene first (p ∷ plans) past h (suc i) n plan is at =
    let both = and_parts (nat_le (length p.commands) (length (outcomes scene.tries (acts first past)))) (are_done scene (first + 1) plans past) h
    in each_done scene (first + 1) plans past both.1 i n plan (omega arith) at

all_done : (scene : Scene) (first : ℕ) (plans : List SessionPlan) (past : List Event) → EachDone scene first plans past → are_done scene first plans past ≡ true
all_done scene first [] past h = refl
all_done scene first (p ∷ plans) past h =
    let here = le-leb (length p.commands) (length (outcomes scene.tries (acts first past))) (h 0 first p (omega arith) refl)
    in let rest = all_done scene (first + 1) plans past (λ i n plan is at. h (suc i) n plan (omega arith) at)
    in rw here rest

-- the answer that every command is done is the test's
done_is : (scene : Scene) (past : List Event) (answer : Bool) → (answer ≡ true) ↔ AreDone scene past → answer ≡ are_done scene 0 scene.sessions past
done_is scene past answer tells =
    same_from_decides {P = AreDone scene past} answer (are_done scene 0 scene.sessions past) tells (
      λ h session plan at. each_done scene 0 scene.sessions past h session session plan (omega arith) at,
      λ h. all_done scene 0 scene.sessions past (λ i n plan is at. let same : n ≡ i = omega arith in rw same (h i plan at)),
    )

-- where there can be no more events
pub full_is : (scene : Scene) (past : List Event) (answer : Bool) → length past ≡ MOST_EVENTS → (answer ≡ true) ↔ AreDone scene past → not answer ≡ is_full scene past
full_is scene past answer many tells =
    let test : (length past == MOST_EVENTS) ≡ true = eq-eqb (length past) MOST_EVENTS many
    in rw test (ap not (done_is scene past answer tells))

-- What a house tells of its history.
use Rattle.std.proofs.Common.{◌≡◌, ℕ, suc, ◌<◌, Bool, true, false, ltb, List, [], ◌∷◌, ◌++◌, length, take, drop, get_or, refl, sym, ◌∙◌, inl, inr, arith}
use Rattle.std.specs.Prelude.{◌↔◌, Option, Some, None, not, slice_get}
use Rattle.std.specs.List.{AllByRecursion}
use Rattle.std.specs.Option.{is_some}
use Rattle.std.proofs.lemmas.Bool.{and_from, and_parts, le-ltb, lt-ltb}
use Rattle.std.proofs.lemmas.List.{take-append-drop}
use Rattle.std.proofs.lemmas.Option.{same_Some, slice_get_cases, slice_get_within}
use Rattle.carol_program.specs.declared.scenes.Scene.{Scene}
use Rattle.carol_program.specs.declared.scenes.SessionPlan.{SessionPlan}
use Rattle.carol_event.specs.declared.event.Event.{Event}
use Rattle.carol_reading.specs.declared.outcome.Outcome.TheVariants as outcome
use Rattle.carol_history.specs.Acts.{UnderWay, acts}
use Rattle.carol_history.specs.Laws.{DoneIsNoneUnderWay}
use Rattle.carol_history.specs.Results.{AreDone, result}
use Rattle.carol_history.proofs.Actors.{at_place, is_there}
use Rattle.carol_simulation.specs.Upheld.{RunsUphold}
use Rattle.carol_machine.specs.States.{SessionState, present_in}
use Rattle.carol_house.specs.declared.tables.Tables.{Tables}
use Rattle.carol_house.specs.House.{HasCommandIn, HasPlanned, House, UpholdsAll, rules_of}
use Rattle.carol_house.specs.Kept.{IsKept, IsMachineOf, are_done}
use Rattle.carol_house.proofs.Sound.{may_run}

-- all is upheld up to each event
pub upholds_all : (h : House) (t : Tables) (capacity : ℕ) → IsKept h t capacity → RunsUphold → UpholdsAll h
upholds_all h t capacity k law count =
    let whole : take count h.history ++ drop count h.history ≡ h.history = take-append-drop count h.history
    in law (rules_of h) h.scene (take count h.history) (drop count h.history) (may_run h t capacity k) (rw whole k.run) (rw whole k.few)

module _ (scene : Scene) (past : List Event) (session : ℕ) (m : SessionState) (one : IsMachineOf scene session (acts session past) m) where
  pub planned_here : (command : ℕ) → HasPlanned scene session command → command < length m.plan.commands
  planned_here command has = rw one.planned at has

  pub outcome_here : (command : ℕ) → get_or m.results command outcome.NotDone ≡ result scene session command past
  outcome_here command = rw (one.at.results, one.tries) refl

  -- no command is under way where the machine names none
  present_none : present_in m ≡ None → UnderWay scene session past → ⊥
  present_none none way =
      let same : way.plan ≡ m.plan = same_Some way.plan m.plan (sym way.planned ∙ one.planned)
      in let there : slice_get m.plan.commands m.at.command ≡ Some way.command = rw (← same, one.at.place, one.tries) way.present
      in let inside : m.at.command < length m.plan.commands = slice_get_within m.plan.commands m.at.command way.command there
      in let yes_there : ltb m.at.command (length m.plan.commands) ≡ true = lt-ltb m.at.command (length m.plan.commands) inside
      in clash (rw yes_there at none)
    where
      clash : Some m.at.command ≡ None → ⊥
      clash e = cc

  none_present : (UnderWay scene session past → ⊥) → present_in m ≡ None
  none_present nobody = elim (slice_get_cases m.plan.commands m.at.command).1 [
    | inl found ↦ absurd (nobody (record { plan = m.plan; command = found.0; planned = one.planned; present = rw (← one.tries, ← one.at.place) found.2 }))
    | inr over ↦
        let no_there : ltb m.at.command (length m.plan.commands) ≡ false = le-ltb m.at.command (length m.plan.commands) over.0
        in rw no_there refl
  ]

  pub present_is : (present_in m ≡ None) ↔ (UnderWay scene session past → ⊥)
  present_is = (present_none, none_present)

-- a test for none
pub none_is : {X : Type 0} (o : Option X) (b : Bool) → is_some o ≡ not b → (b ≡ true) ↔ (o ≡ None)
none_is None true e = (λ _. refl, λ _. refl)
none_is None false e = absurd (clash e)
  where
    clash : false ≡ true → ⊥
    clash q = cc
none_is (Some x) true e = absurd (clash e)
  where
    clash : true ≡ false → ⊥
    clash q = cc
none_is (Some x) false e = (λ q. absurd (clash q), λ q. absurd (nothing q))
  where
    clash : false ≡ true → ⊥
    clash q = cc

    nothing : Some x ≡ None → ⊥
    nothing q = cc

-- all machines name none
all_from : (P : SessionState → Type 0) (ms : List SessionState) → ((i : ℕ) (m : SessionState) → slice_get ms i ≡ Some m → P m) → AllByRecursion P ms
all_from P [] h = tt
all_from P (m ∷ ms) h = (h 0 m refl, all_from P ms (λ i x at. h (suc i) x at))

all_done : (ms : List SessionState) → (are_done ms ≡ true) ↔ AllByRecursion (λ m. present_in m ≡ None) ms
all_done [] = (λ _. tt, λ _. refl)
all_done (m ∷ ms) =
    let here = none_is (present_in m) (not (is_some (present_in m))) (sym (not-not (is_some (present_in m))))
    in let rest = all_done ms
    in (
      λ e. let parts = and_parts (not (is_some (present_in m))) (are_done ms) e in (here.0 parts.0, rest.0 parts.1),
      λ all. and_from (not (is_some (present_in m))) (are_done ms) (here.1 all.0) (rest.1 all.1),
    )
  where
    not-not : (b : Bool) → not (not b) ≡ b
    not-not true = refl
    not-not false = refl

none_under_way : (h : House) (t : Tables) (capacity : ℕ) → IsKept h t capacity → AllByRecursion (λ m. present_in m ≡ None) t.machines.items ↔ ((session : ℕ) → UnderWay h.scene session h.history → ⊥)
none_under_way h t capacity k = (nobody, all)
  where
    nobody : AllByRecursion (λ m. present_in m ≡ None) t.machines.items → (session : ℕ) → UnderWay h.scene session h.history → ⊥
    nobody each session way = elim (slice_get_cases t.machines.items session).1 [
      | inl found ↦ (present_is h.scene h.history session found.0 (k.tables.machines session found.0 found.2)).0 (at_place (λ m. present_in m ≡ None) t.machines.items session found.0 each found.2) way
      | inr over ↦
          let inside : session < length h.scene.sessions = is_there h.scene session h.history way
          in absurd (omega (arith, over.0, k.tables.machine_each))
    ]

    all : ((session : ℕ) → UnderWay h.scene session h.history → ⊥) → AllByRecursion (λ m. present_in m ≡ None) t.machines.items
    all none = all_from (λ m. present_in m ≡ None) t.machines.items (λ i m at. (present_is h.scene h.history i m (k.tables.machines i m at)).1 (none i))

-- a session that has a command planned is there
pub planned_there : (scene : Scene) (session command : ℕ) → HasPlanned scene session command → session < length scene.sessions
planned_there scene session command has = there (slice_get scene.sessions session) refl has
  where
    there : (o : Option SessionPlan) → slice_get scene.sessions session ≡ o → HasCommandIn o command → session < length scene.sessions
    there None e h = absurd h
    there (Some plan) e h = slice_get_within scene.sessions session plan e

-- all commands are done where the machines say so
pub done_is : (h : House) (t : Tables) (capacity : ℕ) → IsKept h t capacity → DoneIsNoneUnderWay h.scene h.history → (are_done t.machines.items ≡ true) ↔ AreDone h.scene h.history
done_is h t capacity k law =
    let told = all_done t.machines.items
    in let nobody = none_under_way h t capacity k
    in (λ e. law.1 (nobody.0 (told.0 e)), λ all. told.1 (nobody.1 (law.0 all)))

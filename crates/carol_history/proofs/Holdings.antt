-- Who may hold which entries.
use Rattle.std.proofs.Common.{◌≡◌, ℕ, ◌<◌, ◌≤◌, true, false, eqb, ◌&&◌, List, [], ◌∷◌, length, ⊎_elim, arith, length-append}
use Rattle.std.proofs.lemmas.Bool.{or_cases, and_parts, eqb-true, false_from_ne_true}
use Rattle.carol_program.specs.Rules.{Rules}
use Rattle.carol_program.specs.declared.scenes.Scene.{Scene}
use Rattle.carol_event.specs.declared.event.Event.{Event}
use Rattle.carol_event.specs.declared.event.Event.TheVariants.{Issue, Deliver}
use Rattle.carol_history.specs.Journals.{journal, is_at, is_held}
use Rattle.carol_history.specs.Runs.{Run}

-- only entries of the journal are held
pub held_within : (p : Rules) (scene : Scene) (past : List Event) → Run p scene past → (replica entry : ℕ) → is_held scene.sessions replica entry past ≡ true → entry < length (journal past)
held_within p scene [] run replica entry h = cc
held_within p scene (Issue session i effect ∷ past) run replica entry h =
    let number : i ≡ length (journal past) = run.0.number
    in rw length-append (⊎_elim
    (λ here. let e : i ≡ entry = eqb-true i entry (and_parts _ _ here).0 in omega arith)
    (λ rest. let lt : entry < length (journal past) = held_within p scene past run.1 replica entry rest in omega arith)
    (or_cases (eqb i entry && is_at scene.sessions session replica) (is_held scene.sessions replica entry past) h))
held_within p scene (Deliver source target i ∷ past) run replica entry h =
    ⊎_elim
    (λ here. let e : i ≡ entry = eqb-true i entry (and_parts _ _ here).0 in rw (← e) (held_within p scene past run.1 source i run.0.held))
    (λ rest. held_within p scene past run.1 replica entry rest)
    (or_cases (eqb i entry && eqb target replica) (is_held scene.sessions replica entry past) h)
held_within p scene (event ∷ past) run replica entry h = held_within p scene past run.1 replica entry h

-- an entry that is yet to come is not held
pub not_held : (p : Rules) (scene : Scene) (past : List Event) → Run p scene past → (replica entry : ℕ) → length (journal past) ≤ entry → is_held scene.sessions replica entry past ≡ false
not_held p scene past run replica entry h =
    false_from_ne_true (is_held scene.sessions replica entry past) (λ e. let lt : entry < length (journal past) = held_within p scene past run replica entry e in omega arith)

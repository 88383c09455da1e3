-- Events are acts, deliveries, cuts and joins; there are at most as many deliveries of an entry as
-- other replicas.
use Rattle.std.proofs.Common.{◌≡◌, ℕ, suc, ◌+◌, ◌*◌, ◌<◌, ◌≤◌, Bool, true, false, eqb, ◌&&◌, ◌||◌, List, [], ◌∷◌, ◌++◌, length, refl, ap, inl, inr, length-append, arith}
use Rattle.std.specs.Prelude.{Some, slice_get}
use Rattle.std.specs.List.{sum_by}
use Rattle.std.specs.Option.{option_map_or}
use Rattle.std.proofs.Math.Nat.{mul-suc, mul-zero}
use Rattle.std.proofs.lemmas.Bool.{eq-eqb}
use Rattle.std.proofs.lemmas.Option.{slice_get_cases}
use Rattle.carol_store.specs.declared.effect.Atom.{Atom}
use Rattle.carol_program.specs.Rules.{Rules}
use Rattle.carol_program.specs.Scenes.{IsValidScene}
use Rattle.carol_program.specs.declared.scenes.Scene.{Scene}
use Rattle.carol_program.specs.declared.scenes.SessionPlan.{SessionPlan}
use Rattle.carol_reading.specs.Marks.{Asked, Issued, Released, Returned}
use Rattle.carol_event.specs.declared.event.Cause.TheVariants.{Barred, Behind}
use Rattle.carol_event.specs.declared.event.Event.{Event}
use Rattle.carol_event.specs.declared.event.Event.TheVariants.{Grant, Query, Issue, Release, Return, Refuse, Deliver, Cut, Join}
use Rattle.carol_history.specs.Acts.{Act, Granted, Did, Refused, acts, with_act}
use Rattle.carol_history.specs.Bounds.{links, most_events, most_for}
use Rattle.carol_history.specs.Journals.{journal, is_at, is_held}
use Rattle.carol_history.specs.Runs.{Run}
use Rattle.carol_history.proofs.Actors.{at_actor, home_is_there, is_home, is_there}
use Rattle.carol_history.proofs.Holdings.{held_within}
use Rattle.carol_simulation.specs.Laws.{RunsAreShort}
use Rattle.carol_simulation.proofs.BoundSessions.{tallied}
use Rattle.carol_simulation.proofs.Sums.{below, below_gain, below_mono, below_most, sum_below}
use Rattle.carol_simulation.proofs.Tries.{act_weight, all_tries, others, weight}

-- ---- acts

-- the acts of all sessions
abbrev pub all_acts : Scene → List Event → ℕ
all_acts scene past = below (length scene.sessions) (λ session. weight (others scene) (acts session past))

-- one act more of a session that there is
acts_gain : (scene : Scene) (actor : ℕ) (act : Act) (past : List Event) → actor < length scene.sessions → all_acts scene past + act_weight (others scene) act ≤ below (length scene.sessions) (λ session. weight (others scene) (with_act session (Some (record { actor = actor; act = act })) (acts session past)))
acts_gain scene actor act past there =
    below_gain (λ session. weight (others scene) (acts session past)) (λ session. weight (others scene) (with_act session (Some (record { actor = actor; act = act })) (acts session past))) actor (act_weight (others scene) act) (length scene.sessions)
    (λ session low. grows session) there own
  where
    grows : (session : ℕ) → weight (others scene) (acts session past) ≤ weight (others scene) (with_act session (Some (record { actor = actor; act = act })) (acts session past))
    grows session =
        at_actor (λ u done. u ≡ session → weight (others scene) (acts session past) ≤ weight (others scene) done) actor session act past
        (λ apart e. omega arith) (λ e. rw (← e) (omega arith)) refl

    own : weight (others scene) (acts actor past) + act_weight (others scene) act ≤ weight (others scene) (with_act actor (Some (record { actor = actor; act = act })) (acts actor past))
    own = let hit : eqb actor actor ≡ true = eq-eqb actor actor refl in rw hit (omega arith)

-- ---- holdings

abbrev pub bit : Bool → ℕ
bit true = 1
bit false = 0

bit_most : (b : Bool) → bit b ≤ 1
bit_most true = omega arith
bit_most false = omega arith

bit_or : (b c : Bool) → bit c ≤ bit (b || c)
bit_or true true = omega arith
bit_or true false = omega arith
bit_or false c = omega arith

-- how many entries the replica holds, and how many all hold
abbrev pub held_by : Scene → List Event → ℕ → ℕ
held_by scene past replica = below (length (journal past)) (λ entry. bit (is_held scene.sessions replica entry past))

abbrev pub all_held : Scene → List Event → ℕ
all_held scene past = below scene.replicas (held_by scene past)

held_most : (scene : Scene) (past : List Event) → all_held scene past ≤ scene.replicas * length (journal past)
held_most scene past = below_most (held_by scene past) (length (journal past)) scene.replicas (λ replica low. one replica)
  where
    one : (replica : ℕ) → held_by scene past replica ≤ length (journal past)
    one replica = omega (arith, below_most (λ entry. bit (is_held scene.sessions replica entry past)) 1 (length (journal past)) (λ entry low. bit_most (is_held scene.sessions replica entry past)))

-- a new entry is held where it was issued
issue_gain : (scene : Scene) (session entry home : ℕ) (effect : List Atom) (past : List Event) → entry ≡ length (journal past) → home < scene.replicas → is_at scene.sessions session home ≡ true → all_held scene past + 1 ≤ all_held scene (Issue session entry effect ∷ past)
issue_gain scene session entry home effect past number there here =
    below_gain (held_by scene past) (held_by scene (Issue session entry effect ∷ past)) home 1 scene.replicas (λ replica low. grows replica) there own
  where
    more : (replica : ℕ) → below (suc (length (journal past))) (λ i. bit (((eqb entry i) && is_at scene.sessions session replica) || is_held scene.sessions replica i past)) ≡ held_by scene (Issue session entry effect ∷ past) replica
    more replica =
        let longer : suc (length (journal past)) ≡ length (journal past ++ effect ∷ []) = omega (arith, length-append (journal past) (effect ∷ []))
        in ap (λ n. below n (λ i. bit (((eqb entry i) && is_at scene.sessions session replica) || is_held scene.sessions replica i past))) longer

    before : (replica : ℕ) → held_by scene past replica ≤ below (length (journal past)) (λ i. bit (((eqb entry i) && is_at scene.sessions session replica) || is_held scene.sessions replica i past))
    before replica = below_mono (λ i. bit (is_held scene.sessions replica i past)) (λ i. bit (((eqb entry i) && is_at scene.sessions session replica) || is_held scene.sessions replica i past)) (length (journal past)) (λ i low. bit_or ((eqb entry i) && is_at scene.sessions session replica) (is_held scene.sessions replica i past))

    grows : (replica : ℕ) → held_by scene past replica ≤ held_by scene (Issue session entry effect ∷ past) replica
    grows replica = omega (arith, more replica, before replica)

    last : bit (((eqb entry (length (journal past))) && is_at scene.sessions session home) || is_held scene.sessions home (length (journal past)) past) ≡ 1
    last = let hit : eqb entry (length (journal past)) ≡ true = eq-eqb entry (length (journal past)) number in rw (hit, here) refl

    own : held_by scene past home + 1 ≤ held_by scene (Issue session entry effect ∷ past) home
    own = omega (arith, more home, before home, last)

-- a delivery gives an entry to a replica that lacked it
deliver_gain : (scene : Scene) (source target entry : ℕ) (past : List Event) → target < scene.replicas → entry < length (journal past) → is_held scene.sessions target entry past ≡ false → all_held scene past + 1 ≤ all_held scene (Deliver source target entry ∷ past)
deliver_gain scene source target entry past there inside lacking =
    below_gain (held_by scene past) (held_by scene (Deliver source target entry ∷ past)) target 1 scene.replicas (λ replica low. grows replica) there own
  where
    grows : (replica : ℕ) → held_by scene past replica ≤ held_by scene (Deliver source target entry ∷ past) replica
    grows replica = below_mono (λ i. bit (is_held scene.sessions replica i past)) (λ i. bit (is_held scene.sessions replica i (Deliver source target entry ∷ past))) (length (journal past)) (λ i low. bit_or ((eqb entry i) && (eqb target replica)) (is_held scene.sessions replica i past))

    now : bit (is_held scene.sessions target entry past) + 1 ≤ bit (is_held scene.sessions target entry (Deliver source target entry ∷ past))
    now =
        let one : eqb entry entry ≡ true = eq-eqb entry entry refl
        in let two : eqb target target ≡ true = eq-eqb target target refl
        in rw (lacking, one, two) (omega arith)

    own : held_by scene past target + 1 ≤ held_by scene (Deliver source target entry ∷ past) target
    own = below_gain (λ i. bit (is_held scene.sessions target i past)) (λ i. bit (is_held scene.sessions target i (Deliver source target entry ∷ past))) entry 1 (length (journal past)) (λ i low. bit_or ((eqb entry i) && (eqb target target)) (is_held scene.sessions target i past)) inside now

-- ---- the tally of all events

pub tally : (p : Rules) (scene : Scene) → IsValidScene p scene → (past : List Event) → Run p scene past → length past + scene.replicas * length (journal past) ≤ all_acts scene past + links past + all_held scene past
tally p scene valid [] run = omega (arith, mul-zero scene.replicas)
tally p scene valid (Grant s guard ∷ past) run =
    omega (arith, tally p scene valid past run.1, acts_gain scene s (Granted guard) past (is_there scene s past run.0.next.way))
tally p scene valid (Query s guard store ∷ past) run =
    omega (arith, tally p scene valid past run.1, acts_gain scene s (Did (Asked guard store)) past (is_there scene s past run.0.next.way))
tally p scene valid (Issue s entry effect ∷ past) run =
    let home : run.0.next.way.plan.replica < scene.replicas = home_is_there p scene valid s past run.0.next.way
    in let longer : length (journal past ++ effect ∷ []) ≡ suc (length (journal past)) = omega (arith, length-append (journal past) (effect ∷ []))
    in let product : scene.replicas * length (journal past ++ effect ∷ []) ≡ scene.replicas * length (journal past) + scene.replicas = rw longer (mul-suc scene.replicas (length (journal past)))
    in let acted : all_acts scene past + (1 + others scene) ≤ all_acts scene (Issue s entry effect ∷ past) = acts_gain scene s (Did (Issued effect)) past (is_there scene s past run.0.next.way)
    in let held : all_held scene past + 1 ≤ all_held scene (Issue s entry effect ∷ past) = issue_gain scene s entry run.0.next.way.plan.replica effect past run.0.number home (is_home scene s past run.0.next.way)
    in let before : length past + scene.replicas * length (journal past) ≤ all_acts scene past + links past + all_held scene past = tally p scene valid past run.1
    in omega (arith, valid.some_replica)
tally p scene valid (Release s ∷ past) run =
    omega (arith, tally p scene valid past run.1, acts_gain scene s (Did Released) past (is_there scene s past run.0.way))
tally p scene valid (Return s value ∷ past) run =
    omega (arith, tally p scene valid past run.1, acts_gain scene s (Did (Returned value)) past (is_there scene s past run.0.way))
tally p scene valid (Refuse s (Barred holder guard) ∷ past) run =
    omega (arith, tally p scene valid past run.1, acts_gain scene s (Refused (Barred holder guard)) past (is_there scene s past run.0.next.way))
tally p scene valid (Refuse s (Behind entry) ∷ past) run =
    omega (arith, tally p scene valid past run.1, acts_gain scene s (Refused (Behind entry)) past (is_there scene s past run.0.missing.next.way))
tally p scene valid (Deliver source target entry ∷ past) run =
    omega (arith, tally p scene valid past run.1, deliver_gain scene source target entry past run.0.to (held_within p scene past run.1 source entry run.0.held) run.0.lacking)
tally p scene valid (Cut a b ∷ past) run = omega (arith, tally p scene valid past run.1)
tally p scene valid (Join a b ∷ past) run = omega (arith, tally p scene valid past run.1)

-- the acts of all sessions are paid for
acts_most : (p : Rules) (scene : Scene) → IsValidScene p scene → (past : List Event) → Run p scene past → all_acts scene past ≤ most_events p scene
acts_most p scene valid past run =
    rw (sum_below (λ (plan : SessionPlan). sum_by (most_for p scene) plan.commands) scene.sessions)
    (below_mono (λ session. weight (others scene) (acts session past)) (λ session. option_map_or (λ (plan : SessionPlan). sum_by (most_for p scene) plan.commands) (slice_get scene.sessions session) 0) (length scene.sessions) each)
  where
    each : (session : ℕ) → session < length scene.sessions → weight (others scene) (acts session past) ≤ option_map_or (λ (plan : SessionPlan). sum_by (most_for p scene) plan.commands) (slice_get scene.sessions session) 0
    each session low = elim (slice_get_cases scene.sessions session).1 [
      | inl found ↦ rw found.2 (all_tries p scene found.0 (acts session past) (tallied p scene valid.some_try past run session found.0 found.2))
      | inr past_all ↦ absurd (omega (arith, past_all.0))
    ]

pub runs_are_short : RunsAreShort
runs_are_short p scene past valid run =
    omega (arith, tally p scene valid past run, acts_most p scene valid past run, held_most scene past)

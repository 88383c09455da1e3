-- How a house goes on, with no cut and no join.
use Rattle.std.proofs.Common.{◌≡◌, ◌≤◌, ◌<◌, ◌+◌, ℕ, Bool, true, false, true≢false, eqb, cond, Option, None, List, [], ◌∷◌, ◌++◌, length, append_assoc, refl, sym, ap, ◌∙◌, subst, inl, inr, below_more, arith}
use Rattle.std.specs.Prelude.{Some}
use Rattle.std.proofs.lemmas.Option.{slice_get_within, slice_get_cases}
use Rattle.carol_program.specs.declared.scenes.Scene.{Scene}
use Rattle.carol_reading.specs.Marks.{Asked, Issued, Released, Returned}
use Rattle.carol_event.specs.declared.event.Event.{Event}
use Rattle.carol_event.specs.declared.event.Event.TheVariants.{Grant, Query, Issue, Release, Return, Refuse, Deliver, Cut, Join}
use Rattle.carol_history.specs.declared.history.TheConstants.{MOST_EVENTS}
use Rattle.carol_history.specs.Acts.{Act, Did, Granted, Doing, Place, Refused, UnderWay, acts, doing, place, with_act}
use Rattle.carol_history.specs.Bounds.{HasNoCut, links}
use Rattle.carol_history.specs.Forced.{Forced}
use Rattle.carol_history.specs.Laws.{DoneIsNoneUnderWay}
use Rattle.carol_house.specs.House.{Enters, House, IsOverSame, rules_of}
use Rattle.carol_house.specs.Moves.{Advances, HasCommand}
use Rattle.carol_house.specs.declared.moved.Moved.TheVariants as moved
use Rattle.carol_worker.specs.Running.{Continues, HasNoLink, HasEnded, is_link}

pub same_over : (house : House) → IsOverSame house house
same_over house = record { kept = refl; scene = refl }

pub over_more : (old mid new : House) → IsOverSame old mid → IsOverSame mid new → IsOverSame old new
over_more old mid new one other =
    record { kept = other.kept ∙ one.kept; scene = other.scene ∙ one.scene }

pub no_link_append : (later past : List Event) → HasNoLink later → HasNoLink past → HasNoLink (later ++ past)
no_link_append [] past none past_none = past_none
no_link_append (event ∷ later) past none past_none =
    (none.0, no_link_append later past none.1 past_none)

pub continues_not : (house : House) → Continues house house
continues_not house = record { over = same_over house; later = []; history = refl; unlinked = tt }

pub continues_more : (old mid new : House) → Continues old mid → Continues mid new → Continues old new
continues_more old mid new one other = record {
  over = over_more old mid new one.over other.over;
  later = other.later ++ one.later;
  history = other.history ∙ ap (λ past. other.later ++ past) one.history
      ∙ sym (append_assoc other.later one.later old.history);
  unlinked = no_link_append other.later one.later other.unlinked one.unlinked;
}

pub continues_one : (old new : House) (event : Event) → is_link event ≡ false → Enters old event new → Continues old new
continues_one old new event unlinked enters = record {
  over = enters.over;
  later = event ∷ [];
  history = enters.history;
  unlinked = (unlinked, tt);
}

-- what a session is to go on with is no cut and no join
forced_no_link : (house : House) (session : ℕ) (event : Event) → Forced (rules_of house) house.scene session event house.history → is_link event ≡ false
forced_no_link house session (Cut a b) forced = absurd forced.0
forced_no_link house session (Join a b) forced = absurd forced.0
forced_no_link house session (Grant s g) forced = refl
forced_no_link house session (Query s g store) forced = refl
forced_no_link house session (Issue s entry effect) forced = refl
forced_no_link house session (Release s) forced = refl
forced_no_link house session (Return s value) forced = refl
forced_no_link house session (Refuse s cause) forced = refl
forced_no_link house session (Deliver source target entry) forced = refl

pub continues_step : (old new : House) (session kind : ℕ) → Advances old session (moved.Entered kind) new → Continues old new
continues_step old new session kind advances =
    continues_one old new advances.0 (forced_no_link old session advances.0 advances.1) advances.4

-- one more turn of a session that goes on: the history is as long as there were turns at least, and
-- no longer than it may be
pub advanced_once : (start house next : House) (session kind turns : ℕ) → Continues start house × (turns ≤ length house.history) × (length house.history ≤ MOST_EVENTS) → Advances house session (moved.Entered kind) next → Continues start next × (turns + 1 ≤ length next.history) × (length next.history ≤ MOST_EVENTS)
advanced_once start house next session kind turns kept advances =
    let longer = ap (λ (past : List Event). length past) advances.4.history in (
      continues_more start house next kept.0 (continues_step house next session kind advances),
      omega (arith, kept.1),
      omega (arith, advances.3),
    )

-- ---- what is done stays done

refused_command : (b : Bool) (at : Place) → at.command ≤ (cond {A = Place} b (record { command = at.command + 1; refusals = 0 }) (record { command = at.command; refusals = at.refusals + 1 })).command
refused_command true at = omega arith
refused_command false at = omega arith

-- an act leads to the same command or the next
place_rises : (tries : ℕ) (act : Act) (done : List Act) → (place tries done).command ≤ (place tries (act ∷ done)).command
place_rises tries (Granted guard) done = omega arith
place_rises tries (Did (Asked guard store)) done = omega arith
place_rises tries (Did (Issued effect)) done = omega arith
place_rises tries (Did Released) done = omega arith
place_rises tries (Did (Returned value)) done = omega arith
place_rises tries (Refused cause) done =
    refused_command (eqb ((place tries done).refusals + 1) tries) (place tries done)

rises_if : (tries : ℕ) (b : Bool) (act : Act) (done : List Act) → (place tries done).command ≤ (place tries (cond b (act ∷ done) done)).command
rises_if tries true act done = place_rises tries act done
rises_if tries false act done = omega arith

rises_with : (tries session : ℕ) (whose : Option Doing) (done : List Act) → (place tries done).command ≤ (place tries (with_act session whose done)).command
rises_with tries session None done = omega arith
rises_with tries session (Some d) done = rises_if tries (eqb d.actor session) d.act done

-- events lead a session to the same command or one behind it
rises_after : (tries session : ℕ) (later past : List Event) → (place tries (acts session past)).command ≤ (place tries (acts session (later ++ past))).command
rises_after tries session [] past = omega arith
rises_after tries session (event ∷ later) past =
    omega (arith, rises_after tries session later past, rises_with tries session (doing event) (acts session (later ++ past)))

-- a session with a command under way had one under way before
under_way_before : (scene : Scene) (session : ℕ) (later past : List Event) → UnderWay scene session (later ++ past) → UnderWay scene session past
under_way_before scene session later past way =
    let rises = rises_after scene.tries session later past in
    let within = slice_get_within way.plan.commands _ way.command way.present in
    elim (slice_get_cases way.plan.commands (place scene.tries (acts session past)).command).1 [
      | inl found ↦ record { plan = way.plan; command = found.0; planned = way.planned; present = found.2 }
      | inr over ↦ absurd (omega (arith, over.0))
    ]

pub stays_done : (old new : House) (session : ℕ) → Continues old new → (HasCommand old session → ⊥) → HasCommand new session → ⊥
stays_done old new session goes done way =
    let here : UnderWay old.scene session new.history = subst (λ (s : Scene). UnderWay s session new.history) goes.over.scene way in
    done (under_way_before old.scene session goes.later old.history (subst (λ (h : List Event). UnderWay old.scene session h) goes.history here))

-- ---- what was cut or joined before

pub links_before : (later past : List Event) → HasNoLink later → links (later ++ past) ≡ links past
links_before [] past none = refl
links_before (event ∷ later) past none = links_with event (later ++ past) none.0 ∙ links_before later past none.1
  where
    links_with : (event : Event) (past : List Event) → is_link event ≡ false → links (event ∷ past) ≡ links past
    links_with (Cut a b) past is = absurd (true≢false is)
    links_with (Join a b) past is = absurd (true≢false is)
    links_with (Grant s g) past is = refl
    links_with (Query s g store) past is = refl
    links_with (Issue s entry effect) past is = refl
    links_with (Release s) past is = refl
    links_with (Return s value) past is = refl
    links_with (Refuse s cause) past is = refl
    links_with (Deliver source target entry) past is = refl

pub no_cut_before : (later past : List Event) → HasNoLink later → HasNoCut past → HasNoCut (later ++ past)
no_cut_before [] past none uncut = uncut
no_cut_before (event ∷ later) past none uncut = cut_with event (later ++ past) none.0 (no_cut_before later past none.1 uncut)
  where
    cut_with : (event : Event) (past : List Event) → is_link event ≡ false → HasNoCut past → HasNoCut (event ∷ past)
    cut_with (Cut a b) past is uncut = absurd (true≢false is)
    cut_with (Join a b) past is uncut = uncut
    cut_with (Grant s g) past is uncut = uncut
    cut_with (Query s g store) past is uncut = uncut
    cut_with (Issue s entry effect) past is uncut = uncut
    cut_with (Release s) past is uncut = uncut
    cut_with (Return s value) past is uncut = uncut
    cut_with (Refuse s cause) past is uncut = uncut
    cut_with (Deliver source target entry) past is uncut = uncut

-- ---- one session after another

-- those before the session are done
abbrev pub AreDoneBelow : House → House → ℕ → Type 0
AreDoneBelow start house session =
    Continues start house × ((s : ℕ) → s < session → HasCommand house s → ⊥)

pub done_one_more : (start house next : House) (session : ℕ) → AreDoneBelow start house session → Continues house next → (HasCommand next session → ⊥) → AreDoneBelow start next (session + 1)
done_one_more start house next session kept goes done = (
  continues_more start house next kept.0 goes,
  below_more (λ (s : ℕ). HasCommand next s → ⊥) session (λ s below. stays_done house next s goes (kept.1 s below)) done,
)

pub all_done : (start house : House) (sessions session : ℕ) → sessions ≡ length start.scene.sessions → sessions ≤ session → AreDoneBelow start house session → DoneIsNoneUnderWay house.scene house.history → HasEnded house
all_done start house sessions session count past kept law = inl (law.1 nobody)
  where
    nobody : (s : ℕ) → UnderWay house.scene s house.history → ⊥
    nobody s way =
        let within : s < length house.scene.sessions = slice_get_within house.scene.sessions s way.plan way.planned in
        kept.1 s (omega (arith, ap (λ (c : Scene). length c.sessions) kept.0.over.scene)) way

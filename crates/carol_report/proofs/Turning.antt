-- One turn, and one round, after another.
use Rattle.std.proofs.Common.{◌≡◌, ◌↔◌, ℕ, Bool, true, false, zero, suc, ◌+◌, ◌-◌, ◌<◌, ◌≤◌, List, ◌∷◌, length, inl, inr, refl, sym, subst, ◌∙◌, ap, add-one, arith}
use Rattle.std.specs.Prelude.{◌⊎◌}
use Rattle.std.proofs.lemmas.Bool.{cases_eq, cases_lt}
use Rattle.std.proofs.lemmas.Option.{slice_get_within}
use Rattle.carol_program.specs.Rules.{Rules}
use Rattle.carol_program.specs.declared.scenes.Scene.{Scene}
use Rattle.carol_event.specs.declared.event.Event.{Event}
use Rattle.carol_history.specs.declared.history.TheConstants.{MOST_EVENTS}
use Rattle.carol_history.specs.Acts.{UnderWay}
use Rattle.carol_history.specs.Laws.{DoneIsNoneUnderWay}
use Rattle.carol_history.specs.Results.{AreDone}
use Rattle.carol_house.specs.House.{House, IsOverSame, Rests, rules_of}
use Rattle.carol_report.specs.Turns.{Continues, IsFull, IsOver, Rounds, Turn, TurnOfEach, Turns}

-- one step after the other
over_both : (first now new : House) → IsOverSame first now → IsOverSame now new → IsOverSame first new
over_both first now new one other = record { kept = other.kept ∙ one.kept; scene = other.scene ∙ one.scene }

continues_both : (first now new : House) → Continues first now → Continues now new → Continues first new
continues_both first now new one other = record { over = over_both first now new one.over other.over; room = omega (arith, one.room, other.room) }

-- nothing came of it
same_continues : (old new : House) → new ≡ old → Continues old new
same_continues old new same = subst (λ (house : House). Continues old house) (sym same) (record { over = record { kept = refl; scene = refl }; room = omega arith })

-- what is said of the house as it is now is said of the first one's program and scene
of_first : (P : Rules → Scene → Type 0) (first now : House) → IsOverSame first now → P (rules_of now) now.scene → P (rules_of first) first.scene
of_first P first now over h = rw (over.kept, over.scene) at h

-- the turns of the first sessions were taken
pub record Turning (first : House) (session : ℕ) (now : House) : Type 0 where
  pub goes_on : Continues first now
  pub turns : TurnOfEach (rules_of first) first.scene session first.history now.history

pub no_turn : (house : House) → Turning house 0 house
no_turn house = record { goes_on = same_continues house house refl; turns = refl }

pub turn_more : (first : House) (session : ℕ) (now new : House) → Turning first session now → Continues now new → Turn (rules_of now) now.scene session now.history new.history → Turning first (session + 1) new
turn_more first session now new h on turn =
    let there = of_first (λ p scene. Turn p scene session now.history new.history) first now h.goes_on.over turn
    in record { goes_on = continues_both first now new h.goes_on on; turns = rw add-one (now.history, h.turns, there) }

-- so many rounds were made, after room was taken for so many steps
pub record Running (steps : ℕ) (first now : House) : Type 0 where
  pub over : IsOverSame first now
  pub room : steps + length first.history ≤ now.spare + length now.history
  pub rounds : ℕ
  pub made : Rounds (rules_of first) first.scene rounds first.history now.history

pub no_round : (steps : ℕ) (first now : House) → Rests first now → steps ≤ now.spare → Running steps first now
no_round steps first now rests room = record { over = rests.over; room = omega (arith, room, ap length rests.history); rounds = 0; made = rests.history }

pub round_more : (steps : ℕ) (first now new : House) → Running steps first now → Continues now new → TurnOfEach (rules_of now) now.scene (length now.scene.sessions) now.history new.history → Running steps first new
round_more steps first now new h on turns =
    let there = of_first (λ p scene. TurnOfEach p scene (length scene.sessions) now.history new.history) first now h.over turns
    in record { over = over_both first now new h.over on.over; room = omega (arith, h.room, on.room); rounds = suc h.rounds; made = (now.history, h.made, there) }

pub runs_out : (steps : ℕ) (first now : House) → Running steps first now → IsOver now.scene now.history → Turns (rules_of first) first.scene first.history now.history
runs_out steps first now h over = record { rounds = h.rounds; made = h.made; over = rw h.over.scene at over }

-- ---- a round in which no session goes on

-- the sessions below this number rest
abbrev AllRest : Scene → ℕ → List Event → Type 0
AllRest scene n past = (s : ℕ) → s < n → (UnderWay scene s past → ⊥) ⊎ IsFull past

-- there is an event more, or all rested
abbrev MoreOrRest : Scene → ℕ → List Event → List Event → Type 0
MoreOrRest scene n past new = (length past < length new) ⊎ ((new ≡ past) × AllRest scene n past)

one_longer : (given : Event) (past new : List Event) → new ≡ given ∷ past → length new ≡ length past + 1
one_longer given past new e = ap length e ∙ sym (add-one (length past))

turn_or_rest : (p : Rules) (scene : Scene) (s : ℕ) (past before new : List Event) → MoreOrRest scene s past before → Turn p scene s before new → MoreOrRest scene (suc s) past new
turn_or_rest p scene s past before new (inl more) (inl goes) = inl (omega (arith, more, one_longer goes.0 before new goes.3))
turn_or_rest p scene s past before new (inl more) (inr rests) = inl (rw rests.1 more)
turn_or_rest p scene s past before new (inr same) (inl goes) = inl (omega (arith, ap length same.0, one_longer goes.0 before new goes.3))
turn_or_rest p scene s past before new (inr same) (inr rests) = inr (rests.1 ∙ same.0, each)
  where
    here : (UnderWay scene s past → ⊥) ⊎ IsFull past
    here = rw same.0 at rests.0

    each : AllRest scene (suc s) past
    each k h = elim (cases_lt k s) [
      | inl low ↦ same.1 k low
      | inr high ↦ let is : k ≡ s = omega arith in rw is here
    ]

more_or_rest : (p : Rules) (scene : Scene) (n : ℕ) (past new : List Event) → TurnOfEach p scene n past new → MoreOrRest scene n past new
more_or_rest p scene zero past new h = inr (h, λ s low. absurd (omega (arith, low)))
more_or_rest p scene (suc n) past new h = turn_or_rest p scene n past h.0 new (more_or_rest p scene n past h.0 h.1) h.2

-- a session with a command under way is there
is_there : (scene : Scene) (s : ℕ) (past : List Event) → UnderWay scene s past → s < length scene.sessions
is_there scene s past way = slice_get_within scene.sessions s way.plan way.planned

rest_is_over : (scene : Scene) (past : List Event) → AllRest scene (length scene.sessions) past → IsOver scene past
rest_is_over scene past rest = elim (cases_eq (length past) MOST_EVENTS) [
  | inl full ↦ inr full
  | inr not_full ↦ inl (λ s way. elim (rest s (is_there scene s past way)) [
    | inl none ↦ none way
    | inr full ↦ not_full full
  ])
]

-- a round that is made where it is not over gives an event more
pub round_grows : (p : Rules) (scene : Scene) (past new : List Event) → (IsOver scene past → ⊥) → TurnOfEach p scene (length scene.sessions) past new → length past < length new
round_grows p scene past new going turns = elim (more_or_rest p scene (length scene.sessions) past new turns) [
  | inl more ↦ more
  | inr rest ↦ absurd (going (rest_is_over scene past rest.1))
]

-- where there may be more events, it is over as all commands are done
pub done_is_over : (scene : Scene) (past : List Event) (done : Bool) → (IsFull past → ⊥) → DoneIsNoneUnderWay scene past → (done ≡ true) ↔ AreDone scene past → (done ≡ true) ↔ IsOver scene past
done_is_over scene past done not_full law tells = (λ h. inl (law.0 (tells.0 h)), back)
  where
    back : IsOver scene past → done ≡ true
    back (inl none) = tells.1 (law.1 none)
    back (inr full) = absurd (not_full full)

-- so a round brings the history nearer to its most events
pub nearer : (now new : House) (over : Bool) → over ≡ false → (over ≡ true) ↔ IsOver now.scene now.history → length now.history ≤ MOST_EVENTS → TurnOfEach (rules_of now) now.scene (length now.scene.sessions) now.history new.history → MOST_EVENTS - length new.history < MOST_EVENTS - length now.history
nearer now new over going tells few turns =
    let not_over : IsOver now.scene now.history → ⊥ = λ is. clash (sym (tells.1 is) ∙ going)
    in let more = round_grows (rules_of now) now.scene now.history new.history not_over turns
    in let not_full : length now.history ≡ MOST_EVENTS → ⊥ = λ full. not_over (inr full)
    in omega (arith, more, not_full, few)
  where
    clash : true ≡ false → ⊥
    clash e = cc

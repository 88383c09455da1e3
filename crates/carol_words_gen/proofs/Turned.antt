-- Sessions that go on in turn cut and join nothing.
use Rattle.std.proofs.Common.{◌≡◌, ◌≤◌, ◌+◌, ℕ, zero, suc, List, [], ◌∷◌, length, inl, inr, refl, ◌∙◌, ap, arith}
use Rattle.carol_simulation.specs.Laws.{RunsAreShort}
use Rattle.carol_event.specs.declared.event.Event.{Event}
use Rattle.carol_event.specs.declared.event.Event.TheVariants as event
use Rattle.carol_history.specs.Bounds.{links, most_events}
use Rattle.carol_history.specs.Forced.{Forced}
use Rattle.carol_history.specs.Runs.{Run}
use Rattle.carol_report.specs.Turns.{Rounds, Turn, TurnOfEach, Turns}
use Rattle.carol_program.specs.declared.scenes.Scene.{Scene}
use Rattle.carol_program.specs.Rules.{Rules}
use Rattle.carol_program.specs.Scenes.{IsValidScene}

forced_uncut : (p : Rules) (scene : Scene) (session : ℕ) (given : Event) (past : List Event) → Forced p scene session given past → links (given ∷ past) ≡ links past
forced_uncut p scene session (event.Grant s g) past h = refl
forced_uncut p scene session (event.Query s g store) past h = refl
forced_uncut p scene session (event.Issue s entry effect) past h = refl
forced_uncut p scene session (event.Release s) past h = refl
forced_uncut p scene session (event.Return s value) past h = refl
forced_uncut p scene session (event.Refuse s cause) past h = refl
forced_uncut p scene session (event.Deliver source target entry) past h = refl
forced_uncut p scene session (event.Cut a b) past h = absurd h.0
forced_uncut p scene session (event.Join a b) past h = absurd h.0

turn_uncut : (p : Rules) (scene : Scene) (session : ℕ) (past new : List Event) → Turn p scene session past new → links new ≡ links past
turn_uncut p scene session past new (inl goes) = ap links goes.3 ∙ forced_uncut p scene session goes.0 past goes.1
turn_uncut p scene session past new (inr rests) = ap links rests.1

each_uncut : (p : Rules) (scene : Scene) (sessions : ℕ) (past new : List Event) → TurnOfEach p scene sessions past new → links new ≡ links past
each_uncut p scene zero past new h = ap links h
each_uncut p scene (suc session) past new h = turn_uncut p scene session h.0 new h.2 ∙ each_uncut p scene session past h.0 h.1

rounds_uncut : (p : Rules) (scene : Scene) (rounds : ℕ) (past new : List Event) → Rounds p scene rounds past new → links new ≡ links past
rounds_uncut p scene zero past new h = ap links h
rounds_uncut p scene (suc rounds) past new h = each_uncut p scene (length scene.sessions) h.0 new h.2 ∙ rounds_uncut p scene rounds past h.0 h.1

-- so what they make from no events is as short as runs without cuts are
pub turns_short : RunsAreShort → (p : Rules) (scene : Scene) (past : List Event) → IsValidScene p scene → Run p scene past → Turns p scene [] past
    → length past ≤ most_events p scene
turns_short law p scene past valid run turns =
    let short : length past ≤ most_events p scene + links past = law p scene past valid run in
    let none : links past ≡ 0 = rounds_uncut p scene turns.rounds [] past turns.made in
    omega (arith, short, none)

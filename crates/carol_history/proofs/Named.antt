-- The numbers of events name what is there.
use Rattle.std.proofs.Common.{◌≡◌, ℕ, true, false, eqb, List, [], ◌∷◌, ⊎_elim, subst}
use Rattle.std.proofs.lemmas.Bool.{eqb-true, or_cases}
use Rattle.carol_program.specs.Rules.{Rules}
use Rattle.carol_program.specs.declared.scenes.Scene.{Scene}
use Rattle.carol_reading.specs.Marks.{Asked, Issued, Released, Returned}
use Rattle.carol_event.specs.declared.event.Cause.TheVariants.{Barred, Behind}
use Rattle.carol_event.specs.declared.event.Event.{Event}
use Rattle.carol_event.specs.declared.event.Event.TheVariants.{Grant, Query, Issue, Release, Return, Refuse, Deliver, Cut, Join}
use Rattle.carol_history.specs.Acts.{Act, Granted, Did, Refused, acts, has_grant}
use Rattle.carol_history.specs.Laws.{IsSessionsGuard, NamesWhatIs}
use Rattle.carol_history.specs.Runs.{Run}
use Rattle.carol_history.proofs.Actors.{at_actor, is_there}
use Rattle.carol_history.proofs.Holdings.{held_within}

none_live : false ≡ true → ⊥
none_live e = cc

-- with these acts, the session's grants are of guards that there are
abbrev pub HasNamed : Rules → Scene → ℕ → List Act → Type 0
HasNamed p scene session done = (guard : ℕ) → has_grant guard done ≡ true → IsSessionsGuard p scene session guard

pub live_named : (p : Rules) (scene : Scene) (past : List Event) → Run p scene past → (session : ℕ) → HasNamed p scene session (acts session past)
live_named p scene [] run session = λ guard has. absurd (none_live has)
live_named p scene (Grant s g ∷ past) run session =
    at_actor (HasNamed p scene) s session (Granted g) past (λ apart. live_named p scene past run.1 session)
    (λ guard has. ⊎_elim
    (λ here. subst (IsSessionsGuard p scene s) (eqb-true g guard here) (is_there scene s past run.0.next.way, run.0.named))
    (λ before. live_named p scene past run.1 s guard before)
    (or_cases (eqb g guard) (has_grant guard (acts s past)) has))
live_named p scene (Query s g store ∷ past) run session =
    at_actor (HasNamed p scene) s session (Did (Asked g store)) past (λ apart. live_named p scene past run.1 session) (live_named p scene past run.1 s)
live_named p scene (Issue s entry effect ∷ past) run session =
    at_actor (HasNamed p scene) s session (Did (Issued effect)) past (λ apart. live_named p scene past run.1 session) (λ guard has. absurd (none_live has))
live_named p scene (Release s ∷ past) run session =
    at_actor (HasNamed p scene) s session (Did Released) past (λ apart. live_named p scene past run.1 session) (λ guard has. absurd (none_live has))
live_named p scene (Return s value ∷ past) run session =
    at_actor (HasNamed p scene) s session (Did (Returned value)) past (λ apart. live_named p scene past run.1 session) (λ guard has. absurd (none_live has))
live_named p scene (Refuse s cause ∷ past) run session =
    at_actor (HasNamed p scene) s session (Refused cause) past (λ apart. live_named p scene past run.1 session) (λ guard has. absurd (none_live has))
live_named p scene (Deliver source target entry ∷ past) run session = live_named p scene past run.1 session
live_named p scene (Cut a b ∷ past) run session = live_named p scene past run.1 session
live_named p scene (Join a b ∷ past) run session = live_named p scene past run.1 session

pub names_what_is : (p : Rules) (scene : Scene) (event : Event) (past : List Event) → Run p scene (event ∷ past) → NamesWhatIs p scene event past
names_what_is p scene (Grant session guard) past run = (is_there scene session past run.0.next.way, run.0.named)
names_what_is p scene (Query session guard store) past run = live_named p scene past run.1 session guard run.0.live
names_what_is p scene (Issue session entry effect) past run = (is_there scene session past run.0.next.way, run.0.number)
names_what_is p scene (Release session) past run = is_there scene session past run.0.way
names_what_is p scene (Return session value) past run = is_there scene session past run.0.way
names_what_is p scene (Refuse session (Barred holder guard)) past run = (is_there scene session past run.0.next.way, live_named p scene past run.1 holder guard run.0.live)
names_what_is p scene (Refuse session (Behind entry)) past run = (is_there scene session past run.0.missing.next.way, run.0.missing.inside)
names_what_is p scene (Deliver source target entry) past run = (run.0.from, run.0.to, held_within p scene past run.1 source entry run.0.held)
names_what_is p scene (Cut a b) past run = (run.0.one, run.0.other)
names_what_is p scene (Join a b) past run = (run.0.one, run.0.other)

-- What is drawn in the lanes for an event: one line, whose class is the event's kind.
use Rattle.std.specs.Prelude.{ℕ, ◌+◌, ◌==◌, Bool, false, if◌then◌else◌, List, [], ◌∷◌, codes}
use Rattle.carol_program.specs.declared.scenes.SessionPlan.{SessionPlan}
use Rattle.carol_event.specs.declared.event.Cause.{Cause}
use Rattle.carol_event.specs.declared.event.Cause.TheVariants.{Barred, Behind}
use Rattle.carol_event.specs.declared.event.Event.{Event}
use Rattle.carol_event.specs.declared.event.Event.TheVariants.{Grant, Query, Issue, Release, Return, Refuse, Deliver, Cut, Join}
use Rattle.carol_picture.specs.Elements.{line_element}
use Rattle.carol_picture.specs.Places.{home_of, replica_x, row_y, session_x}

-- the event closes the session's grants
abbrev pub closes : ℕ → Event → Bool
closes session (Issue who entry effect) = who == session
closes session (Release who) = who == session
closes session (Return who value) = who == session
closes session (Refuse who cause) = who == session
closes session event = false

-- how many of these events come up to and with the first one that does
abbrev pub until_closed : ℕ → List Event → ℕ
until_closed session [] = 0
until_closed session (event ∷ later) =
    if closes session event then 1 else 1 + until_closed session later

-- a level line at this height
abbrev pub level : List ℕ → ℕ → ℕ → ℕ → List ℕ
level class x x' y = line_element class (x ∷ y ∷ x' ∷ y ∷ [])

-- at a session, from its replica to it, and between two replicas
abbrev pub at_session : List ℕ → List SessionPlan → ℕ → ℕ → List ℕ
at_session class plans session y = level class (session_x plans session) (session_x plans session) y

abbrev pub from_home : List ℕ → List SessionPlan → ℕ → ℕ → List ℕ
from_home class plans session y =
    level class (replica_x plans (home_of plans session)) (session_x plans session) y

abbrev pub between : List ℕ → List SessionPlan → ℕ → ℕ → ℕ → List ℕ
between class plans a b y = level class (replica_x plans a) (replica_x plans b) y

-- a grant: a bar at its session, down to the row of the event that closes it
abbrev pub bar : List SessionPlan → ℕ → ℕ → List Event → List ℕ
bar plans row session later =
    line_element (codes "grant") (session_x plans session ∷ row_y row
    ∷ session_x plans session ∷ row_y (row + until_closed session later) ∷ [])

-- a refusal: a line from the session that bars to the one that is refused, or from the replica
-- that can't hear of an entry
abbrev pub refusal : List SessionPlan → ℕ → Cause → ℕ → List ℕ
refusal plans session (Barred who guard) y =
    level (codes "barred") (session_x plans who) (session_x plans session) y
refusal plans session (Behind entry) y = from_home (codes "behind") plans session y

-- what is drawn for the event of this row, behind which these come
unfoldable pub shape : List SessionPlan → ℕ → Event → List Event → List ℕ
shape plans row (Grant session guard) later = bar plans row session later
shape plans row (Query session guard store) later =
    from_home (codes "query") plans session (row_y row)
shape plans row (Issue session entry effect) later =
    from_home (codes "issue") plans session (row_y row)
shape plans row (Release session) later = at_session (codes "release") plans session (row_y row)
shape plans row (Return session value) later =
    at_session (codes "return") plans session (row_y row)
shape plans row (Refuse session cause) later = refusal plans session cause (row_y row)
shape plans row (Deliver source target entry) later =
    between (codes "deliver") plans source target (row_y row)
shape plans row (Cut a b) later = between (codes "cut") plans a b (row_y row)
shape plans row (Join a b) later = between (codes "join") plans a b (row_y row)

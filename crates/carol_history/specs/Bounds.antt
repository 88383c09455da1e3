-- How many events a history may have.
use Rattle.std.specs.Prelude.{ℕ, ◌+◌, ◌-◌, ◌*◌, max, List, [], ◌∷◌, slice_get}
use Rattle.std.specs.List.{sum_by}
use Rattle.std.specs.Option.{option_map_or}
use Rattle.carol_program.specs.Bodies.{Body, Query, Issue, Release, Branch, Return}
use Rattle.carol_program.specs.Rules.{Rules}
use Rattle.carol_program.specs.declared.scenes.Command.{Command}
use Rattle.carol_program.specs.declared.scenes.Scene.{Scene}
use Rattle.carol_event.specs.declared.event.Cause.TheVariants.{Behind}
use Rattle.carol_event.specs.declared.event.Event.{Event}
use Rattle.carol_event.specs.declared.event.Event.TheVariants.{Refuse, Cut, Join}

-- the most acts of a session in one attempt: a grant and a query for each query on a path, and one
-- for each issue, release and return
abbrev pub longest : Body → ℕ
longest (Query number guard slot next) = 2 + longest next
longest (Issue number parts next) = 1 + longest next
longest (Release number next) = 1 + longest next
longest (Branch number test first second) = max (longest first) (longest second)
longest (Return number value) = 1

-- the most issues on a path
abbrev pub most_issues : Body → ℕ
most_issues (Query number guard slot next) = most_issues next
most_issues (Issue number parts next) = 1 + most_issues next
most_issues (Release number next) = most_issues next
most_issues (Branch number test first second) = max (most_issues first) (most_issues second)
most_issues (Return number value) = 0

-- the most events of one try: its acts, and a delivery of each entry to each other replica
abbrev pub most_in_try : Scene → Body → ℕ
most_in_try scene body = longest body + (scene.replicas - 1) * most_issues body

-- the most events that a command makes
abbrev pub most_for : Rules → Scene → Command → ℕ
most_for p scene command =
    scene.tries * option_map_or (λ op. most_in_try scene op.body) (slice_get p.ops command.op) 0

-- the most events of a run in which nothing is cut or joined
abbrev pub most_events : Rules → Scene → ℕ
most_events p scene = sum_by (λ plan. sum_by (most_for p scene) plan.commands) scene.sessions

-- how often replicas are cut or joined
abbrev pub links : List Event → ℕ
links [] = 0
links (Cut a b ∷ past) = 1 + links past
links (Join a b ∷ past) = 1 + links past
links (event ∷ past) = links past

-- no replicas are cut
abbrev pub HasNoCut : List Event → Type 0
HasNoCut [] = Unit {0}
HasNoCut (Cut a b ∷ past) = ⊥
HasNoCut (event ∷ past) = HasNoCut past

-- nobody is refused for an entry that is out of reach
abbrev pub HasNoneBehind : List Event → Type 0
HasNoneBehind [] = Unit {0}
HasNoneBehind (Refuse session (Behind entry) ∷ past) = ⊥
HasNoneBehind (event ∷ past) = HasNoneBehind past

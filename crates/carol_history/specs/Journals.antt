-- A history is the list of its events, the latest first. Its journal, who holds which entries of
-- it, and the stores that these come to.
use Rattle.std.specs.Prelude.{ℕ, Bool, false, ◌==◌, ◌&&◌, ◌||◌, if◌then◌else◌, List, [], ◌∷◌, ◌++◌, slice_get, get_or}
use Rattle.std.specs.Option.{option_map_or}
use Rattle.carol_store.specs.declared.effect.Atom.{Atom}
use Rattle.carol_store.specs.Actions.{chosen_from}
use Rattle.carol_store.specs.Kinds.{CellValue}
use Rattle.carol_store.specs.Stores.{apply, apply_all}
use Rattle.carol_program.specs.Rules.{Rules}
use Rattle.carol_program.specs.declared.scenes.Scene.{Scene}
use Rattle.carol_program.specs.declared.scenes.SessionPlan.{SessionPlan}
use Rattle.carol_event.specs.declared.event.Event.{Event}
use Rattle.carol_event.specs.declared.event.Event.TheVariants.{Issue, Deliver}

-- the entries of the journal, in order and numbered from 0: the effect of each issue
abbrev pub journal : List Event → List (List Atom)
journal [] = []
journal (Issue session entry effect ∷ past) = journal past ++ effect ∷ []
journal (event ∷ past) = journal past

-- the effect of an entry; nothing is changed where there is no such entry
abbrev pub effect_at : ℕ → List Event → List Atom
effect_at entry past = get_or (journal past) entry []

-- the session stands at the replica
abbrev pub is_at : List SessionPlan → ℕ → ℕ → Bool
is_at sessions session replica =
    option_map_or (λ plan. plan.replica == replica) (slice_get sessions session) false

-- the replica holds the entry: a session at it issued the entry, or the entry was delivered to it
abbrev pub is_held : List SessionPlan → ℕ → ℕ → List Event → Bool
is_held sessions replica entry [] = false
is_held sessions replica entry (Issue session i effect ∷ past) =
    ((i == entry) && is_at sessions session replica) || is_held sessions replica entry past
is_held sessions replica entry (Deliver source target i ∷ past) =
    ((i == entry) && (target == replica)) || is_held sessions replica entry past
is_held sessions replica entry (event ∷ past) = is_held sessions replica entry past

-- the store of a replica: the initial one with each entry applied as it came there
abbrev pub local : Rules → Scene → ℕ → List Event → List CellValue
local p scene replica [] = p.initial
local p scene replica (Issue session entry effect ∷ past) =
    if is_at scene.sessions session replica
    then apply p.shape effect (local p scene replica past)
    else local p scene replica past
local p scene replica (Deliver source target entry ∷ past) =
    if target == replica
    then apply p.shape (effect_at entry past) (local p scene replica past)
    else local p scene replica past
local p scene replica (event ∷ past) = local p scene replica past

-- the global store: the initial one with the whole journal applied
abbrev pub global : Rules → List Event → List CellValue
global p past = apply_all p.shape (journal past) p.initial

-- the initial store with the entries applied that the replica holds, in the journal's order
abbrev pub held_store : Rules → Scene → ℕ → List Event → List CellValue
held_store p scene replica past =
    let held = chosen_from (λ entry. is_held scene.sessions replica entry past) 0 (journal past)
    in apply_all p.shape held p.initial

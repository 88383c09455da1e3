-- A house after an event was entered.
use Rattle.std.proofs.Common.{◌≡◌, ℕ, ◌+◌, ◌-◌, ◌<◌, ◌≤◌, List, [], ◌∷◌, ◌++◌, length, reverse, get_or, refl, sym, ◌∙◌, arith}
use Rattle.std.specs.Prelude.{Some, slice_get}
use Rattle.std.proofs.lemmas.List.{reverse-append}
use Rattle.std.proofs.lemmas.Option.{same_Some, slice_get_read}
use Rattle.carol_program.specs.Rules.{Rules, rules_in}
use Rattle.carol_program.specs.declared.scenes.Scene.{Scene}
use Rattle.carol_reading.specs.Kept.{Kept}
use Rattle.carol_reading.specs.Marks.{Mark}
use Rattle.carol_event.specs.declared.event.Cause.{Cause}
use Rattle.carol_event.specs.declared.event.Cause.TheVariants.{Barred, Behind}
use Rattle.carol_event.specs.declared.event.Event.{Event}
use Rattle.carol_event.specs.declared.event.Event.TheVariants.{Refuse}
use Rattle.carol_history.specs.declared.history.TheConstants.{MOST_EVENTS}
use Rattle.carol_history.specs.Acts.{Next, UnderWay, acts, attempt, marks}
use Rattle.carol_history.specs.Legal.{Legal}
use Rattle.carol_history.proofs.Actors.{is_there}
use Rattle.carol_simulation.proofs.Marks.{attempt_not_returned}
use Rattle.carol_machine.specs.Feeds.{MayFollow}
use Rattle.carol_machine.specs.States.{HasCommand, SessionState}
use Rattle.carol_house.specs.declared.tables.Tables.{Tables}
use Rattle.carol_house.specs.House.{Enters, House, house_of, rules_of}
use Rattle.carol_house.specs.Kept.{AreTables, IsKept, IsMachineOf}

-- the events in order, and the latest first
reverse-push : (events : List Event) (event : Event) → reverse (events ++ event ∷ []) ≡ event ∷ reverse events
reverse-push events event = reverse-append events (event ∷ [])

-- an event that may come next was entered, and these are the tables after it
pub kept_after : (accepted : Kept) (scene : Scene) (events more : List Event) (spare : ℕ) (t new : Tables) (capacity now : ℕ) (event : Event) → IsKept (house_of accepted scene events spare) t capacity → Legal (rules_in accepted.program) scene event (reverse events) → length (reverse events) < MOST_EVENTS → 1 ≤ spare → more ≡ events ++ event ∷ [] → AreTables (rules_in accepted.program) accepted.accords scene (event ∷ reverse events) new → capacity ≤ now → t.holding.spare ≤ new.holding.spare + 1 → t.journal.spare ≤ new.journal.spare + 1 →
    IsKept (house_of accepted scene more (spare - 1)) new now
kept_after accepted scene events more spare t new capacity now event k legal few room is tables wide held entered = rw (is, reverse-push events event) (record {
  may = k.may;
  valid = k.valid;
  run = (legal, k.run);
  few = omega arith;
  tables = tables;
  room = record { events = omega (arith, k.room.events); holding = omega (arith, k.room.holding); journal = omega (arith, k.room.journal) };
})

-- and so it was entered
pub entered : (accepted : Kept) (scene : Scene) (events more : List Event) (spare : ℕ) (event : Event) → more ≡ events ++ event ∷ [] → Enters (house_of accepted scene events spare) event (house_of accepted scene more (spare - 1))
entered accepted scene events more spare event is = record {
  over = record { kept = refl; scene = refl };
  history = rw is (reverse-push events event);
  spare = omega arith;
}

-- the machine of a session with a command under way
pub machine_inside : (h : House) (t : Tables) (capacity session : ℕ) → IsKept h t capacity → UnderWay h.scene session h.history → session < length t.machines.items
machine_inside h t capacity session k way = rw k.tables.machine_each (is_there h.scene session h.history way)

pub machine_there : (h : House) (t : Tables) (capacity session : ℕ) (m : SessionState) → IsKept h t capacity → UnderWay h.scene session h.history → m ≡ get_or t.machines.items session m → slice_get t.machines.items session ≡ Some m
machine_there h t capacity session m k way is = slice_get_read t.machines.items (length t.machines.items) session m refl (machine_inside h t capacity session k way) is

-- it has the command under way
command_here : (h : House) (t : Tables) (capacity session : ℕ) (m : SessionState) → IsKept h t capacity → slice_get t.machines.items session ≡ Some m → (way : UnderWay h.scene session h.history) → slice_get m.plan.commands m.at.command ≡ Some way.command
command_here h t capacity session m k at way =
    let one : IsMachineOf h.scene session (acts session h.history) m = k.tables.machines session m at
    in let same : way.plan ≡ m.plan = same_Some way.plan m.plan (sym way.planned ∙ one.planned)
    in rw (← same, one.at.place, one.tries) way.present

pub has_command : (h : House) (t : Tables) (capacity session : ℕ) (m : SessionState) → IsKept h t capacity → slice_get t.machines.items session ≡ Some m → UnderWay h.scene session h.history → HasCommand m
has_command h t capacity session m k at way = (way.command, command_here h t capacity session m k at way)

-- what is next may follow what it was fed
pub may_follow : (h : House) (t : Tables) (capacity session : ℕ) (m : SessionState) (mark : Mark) → IsKept h t capacity → slice_get t.machines.items session ≡ Some m → Next (rules_of h) h.scene session mark h.history → MayFollow (rules_of h) m mark
may_follow h t capacity session m mark k at next =
    let one : IsMachineOf h.scene session (acts session h.history) m = k.tables.machines session m at
    in record {
      command = next.way.command;
      op = next.op;
      before = marks (attempt (acts session h.history));
      present = command_here h t capacity session m k at next.way;
      found = next.found;
      brings = record { stores = sym one.at.stores; done = sym one.at.count; goes_on = attempt_not_returned (acts session h.history) };
      leaves = next.reads;
    }

-- who is refused has a command under way
pub refused_way : (p : Rules) (scene : Scene) (session : ℕ) (cause : Cause) (past : List Event) → Legal p scene (Refuse session cause) past → UnderWay scene session past
refused_way p scene session (Barred holder guard) past legal = legal.next.way
refused_way p scene session (Behind entry) past legal = legal.missing.next.way

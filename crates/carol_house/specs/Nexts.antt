-- What a session goes on with, and what keeps it from doing so.
use Rattle.std.specs.Prelude.{◌≡◌, ◌≢◌, ℕ, ◌<◌, ◌≤◌, true, false, Bool, ◌||◌, List, [], length, get_or, Option, Some, None, slice_get}
use Rattle.carol_store.specs.declared.effect.Atom.{Atom}
use Rattle.carol_store.specs.Stores.{IsStore}
use Rattle.carol_program.specs.Accords.{Accords}
use Rattle.carol_program.specs.Admitting.{admits}
use Rattle.carol_program.specs.Order.{IsBefore}
use Rattle.carol_program.specs.Rules.{Rules}
use Rattle.carol_program.specs.declared.scenes.Scene.{Scene}
use Rattle.carol_program.specs.declared.scenes.SessionPlan.{SessionPlan}
use Rattle.carol_reading.specs.Marks.{Mark}
use Rattle.carol_event.specs.declared.event.Event.{Event}
use Rattle.carol_history.specs.Acts.{Next, UnderWay, acts, is_live}
use Rattle.carol_history.specs.Forced.{Forced}
use Rattle.carol_history.specs.Journals.{journal, effect_at, is_held}
use Rattle.carol_history.specs.Legal.{Admits, IsFree, IsSettled, Legal}
use Rattle.carol_history.specs.Links.{is_linked}
use Rattle.carol_history.specs.Scripts.{HoldsAllBelow}
use Rattle.carol_holding.specs.Held.{holds}
use Rattle.carol_machine.specs.declared.wish.Wish.{Wish}
use Rattle.carol_machine.specs.declared.wish.Wish.TheVariants as wish
use Rattle.carol_machine.specs.Wishes.{IsFit, SuitsWish}
use Rattle.carol_house.specs.declared.tables.Tables.{Tables}

-- the session may leave each mark next that its wish leads to, and stores there are
pub record GoesOnWith
    (p : Rules) (scene : Scene) (session : ℕ) (w : Wish) (past : List Event) : Type 0 where
  pub next : (mark : Mark) → SuitsWish p.shape w mark → Next p scene session mark past
  pub fit : IsFit p (acts session past) w
  pub start : IsStore p.shape p.initial

-- the wish is the session's; it is finished where no command is under way
abbrev pub Wishes : Rules → Scene → ℕ → Wish → List Event → Type 0
Wishes p scene session wish.Finished past = UnderWay scene session past → ⊥
Wishes p scene session w past = GoesOnWith p scene session w past

-- the lowest entry that the replica lacks and the guard does not admit; none where all are settled
pub record IsOutside
    (p : Rules) (scene : Scene) (replica guard entry : ℕ) (past : List Event) : Type 0 where
  pub inside : entry < length (journal past)
  pub lacking : is_held scene.sessions replica entry past ≡ false
  pub outside : Admits p guard (effect_at entry past) → ⊥
  pub lowest : (i : ℕ) → i < entry → IsSettled p scene replica guard i past

abbrev pub IsFirstOutside : Rules → Scene → ℕ → ℕ → Option ℕ → List Event → Type 0
IsFirstOutside p scene replica guard None past =
    (entry : ℕ) → entry < length (journal past) → IsSettled p scene replica guard entry past
IsFirstOutside p scene replica guard (Some entry) past =
    IsOutside p scene replica guard entry past

-- the lowest replica that is linked to the target and holds the entry; none where there is none
pub record IsLowestHolder
    (scene : Scene) (source target entry : ℕ) (past : List Event) : Type 0 where
  pub from : source < scene.replicas
  pub linked : is_linked source target past ≡ true
  pub held : is_held scene.sessions source entry past ≡ true
  pub lowest : (replica : ℕ) → replica < source → is_linked replica target past ≡ true →
      is_held scene.sessions replica entry past ≡ false

abbrev pub IsHolder : Scene → ℕ → ℕ → Option ℕ → List Event → Type 0
IsHolder scene target entry None past =
    (replica : ℕ) → replica < scene.replicas → is_linked replica target past ≡ true →
    is_held scene.sessions replica entry past ≡ false
IsHolder scene target entry (Some source) past = IsLowestHolder scene source target entry past

-- the event that the session is to go on with; none where no command is under way
abbrev pub IsForced : Rules → Scene → ℕ → Option Event → List Event → Type 0
IsForced p scene session None past = UnderWay scene session past → ⊥
IsForced p scene session (Some given) past = Forced p scene session given past

-- the event, where it may come next
abbrev pub IsAllowed : Rules → Scene → Event → Option Event → List Event → Type 0
IsAllowed p scene given None past = Legal p scene given past → ⊥
IsAllowed p scene given (Some same) past = (same ≡ given) × Legal p scene given past

-- the tables say that the replica holds the entry or the guard admits it
abbrev pub is_settled : Tables → Accords → ℕ → ℕ → ℕ → Bool
is_settled t accords replica guard entry = holds t.holding replica entry
    || admits accords guard (get_or t.journal.entries entry [])

-- the lowest such entry from this one on that they don't say so of; where there is none, the number
-- of entries
pub record IsFirstUnsettled
    (t : Tables) (accords : Accords) (replica guard start found : ℕ) : Type 0 where
  pub from : start ≤ found
  pub to : found ≤ length t.journal.entries
  pub settled : (entry : ℕ) → start ≤ entry → entry < found →
      is_settled t accords replica guard entry ≡ true
  pub stops : found < length t.journal.entries →
      is_settled t accords replica guard found ≡ false

-- the session stands at the replica, which there is
pub record IsHome (scene : Scene) (session replica : ℕ) : Type 0 where
  pub plan : SessionPlan
  pub planned : slice_get scene.sessions session ≡ Some plan
  pub is : replica ≡ plan.replica
  pub inside : replica < scene.replicas

-- the lowest live grant of another session that does not admit the effect; none where each does
pub record IsBarredBy
    (p : Rules) (session : ℕ) (effect : List Atom) (holder guard : ℕ) (past : List Event)
    : Type 0 where
  pub other : holder ≢ session
  pub live : is_live holder guard past ≡ true
  pub barring : Admits p guard effect → ⊥
  pub lowest : (s g : ℕ) → s ≢ session → is_live s g past ≡ true → IsBefore s g holder guard →
      Admits p g effect

abbrev pub IsBarred : Rules → ℕ → List Atom → Option (ℕ × ℕ) → List Event → Type 0
IsBarred p session effect None past = IsFree p session effect past
IsBarred p session effect (Some bar) past = IsBarredBy p session effect bar.0 bar.1 past

-- the lowest entry that the one replica holds and the other lacks; none where there is none
abbrev pub IsMissing : Scene → ℕ → ℕ → Option ℕ → List Event → Type 0
IsMissing scene source target None past =
    HoldsAllBelow scene source target (length (journal past)) past
IsMissing scene source target (Some entry) past =
    (entry < length (journal past))
    × (is_held scene.sessions source entry past ≡ true)
    × (is_held scene.sessions target entry past ≡ false)
    × HoldsAllBelow scene source target entry past

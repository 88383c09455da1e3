-- Which event may come next.
use Rattle.std.specs.Prelude.{◌≡◌, ◌≢◌, ◌⊎◌, ℕ, ◌<◌, true, false, List, length, Option, Some, None, slice_get}
use Rattle.carol_store.specs.declared.effect.Atom.{Atom}
use Rattle.carol_store.specs.Kinds.{CellValue}
use Rattle.carol_formula.specs.Claim.{Claim}
use Rattle.carol_program.specs.Order.{IsBefore}
use Rattle.carol_program.specs.Preserving.{Within}
use Rattle.carol_program.specs.Rules.{Rules}
use Rattle.carol_program.specs.declared.scenes.Scene.{Scene}
use Rattle.carol_reading.specs.Marks.{Asked, Issued, Released, Returned}
use Rattle.carol_event.specs.declared.event.Cause.TheVariants.{Barred, Behind}
use Rattle.carol_event.specs.declared.event.Event.{Event}
use Rattle.carol_event.specs.declared.event.Event.TheVariants.{Grant, Query, Issue, Release, Return, Refuse, Deliver, Cut, Join}
use Rattle.carol_history.specs.Acts.{Next, is_live}
use Rattle.carol_history.specs.Journals.{journal, effect_at, is_held, local}
use Rattle.carol_history.specs.Links.{is_linked}

abbrev pub AdmitsIn : Rules → Option Claim → List Atom → Type 0
AdmitsIn p None effect = ⊥
AdmitsIn p (Some guard) effect = Within p guard effect

-- there is a guard with this number, and the effect is within it
abbrev pub Admits : Rules → ℕ → List Atom → Type 0
Admits p guard effect = AdmitsIn p (slice_get p.guards guard) effect

-- the replica holds the entry, or the guard admits it
abbrev pub IsSettled : Rules → Scene → ℕ → ℕ → ℕ → List Event → Type 0
IsSettled p scene replica guard entry past =
    (is_held scene.sessions replica entry past ≡ true) ⊎ Admits p guard (effect_at entry past)

-- a query under the guard is next, it has no live grant, and all entries are settled
pub record MayGrant
    (p : Rules) (scene : Scene) (session guard : ℕ) (past : List Event) : Type 0 where
  pub store : List CellValue
  pub next : Next p scene session (Asked guard store) past
  pub named : guard < length p.guards
  pub fresh : is_live session guard past ≡ false
  pub settled : (entry : ℕ) → entry < length (journal past) →
      IsSettled p scene next.way.plan.replica guard entry past

-- a query under the guard is next, its grant is live, and the store is the replica's
pub record MayQuery
    (p : Rules) (scene : Scene) (session guard : ℕ) (store : List CellValue) (past : List Event)
    : Type 0 where
  pub next : Next p scene session (Asked guard store) past
  pub live : is_live session guard past ≡ true
  pub seen : store ≡ local p scene next.way.plan.replica past

-- each guard that other sessions have live admits the effect
pub record IsFree
    (p : Rules) (session : ℕ) (effect : List Atom) (past : List Event) : Type 0 where
  pub each : (other guard : ℕ) → other ≢ session → is_live other guard past ≡ true →
      Admits p guard effect

-- the effect is next, the entry is the journal's next, and no other session bars it
pub record MayIssue
    (p : Rules) (scene : Scene) (session entry : ℕ) (effect : List Atom) (past : List Event)
    : Type 0 where
  pub next : Next p scene session (Issued effect) past
  pub number : entry ≡ length (journal past)
  pub free : IsFree p session effect past

-- an effect is next, and this is the lowest live grant of another session that does not admit it
pub record MayRefuseBarred
    (p : Rules) (scene : Scene) (session holder guard : ℕ) (past : List Event) : Type 0 where
  pub effect : List Atom
  pub next : Next p scene session (Issued effect) past
  pub other : holder ≢ session
  pub live : is_live holder guard past ≡ true
  pub barring : Admits p guard effect → ⊥
  pub lowest : (s g : ℕ) → s ≢ session → is_live s g past ≡ true → IsBefore s g holder guard →
      Admits p g effect

-- a query is next whose guard has no live grant, and this is the lowest entry that is not settled
pub record Lacks
    (p : Rules) (scene : Scene) (session entry : ℕ) (past : List Event) : Type 0 where
  pub guard : ℕ
  pub store : List CellValue
  pub next : Next p scene session (Asked guard store) past
  pub named : guard < length p.guards
  pub fresh : is_live session guard past ≡ false
  pub inside : entry < length (journal past)
  pub lacking : is_held scene.sessions next.way.plan.replica entry past ≡ false
  pub outside : Admits p guard (effect_at entry past) → ⊥
  pub lowest : (i : ℕ) → i < entry → IsSettled p scene next.way.plan.replica guard i past

-- the entry is the lowest that is missing, and no replica that is linked to this one holds it
pub record MayRefuseBehind
    (p : Rules) (scene : Scene) (session entry : ℕ) (past : List Event) : Type 0 where
  pub missing : Lacks p scene session entry past
  pub nowhere : (replica : ℕ) → replica < scene.replicas →
      is_linked replica missing.next.way.plan.replica past ≡ true →
      is_held scene.sessions replica entry past ≡ false

-- one replica passes an entry on that it holds to one that lacks it and is linked to it
pub record MayDeliver
    (scene : Scene) (source target entry : ℕ) (past : List Event) : Type 0 where
  pub from : source < scene.replicas
  pub to : target < scene.replicas
  pub linked : is_linked source target past ≡ true
  pub held : is_held scene.sessions source entry past ≡ true
  pub lacking : is_held scene.sessions target entry past ≡ false

-- two different replicas
pub record MayLink (scene : Scene) (a b : ℕ) : Type 0 where
  pub one : a < scene.replicas
  pub other : b < scene.replicas
  pub apart : a ≢ b

-- the event may come next
abbrev pub Legal : Rules → Scene → Event → List Event → Type 0
Legal p scene (Grant session guard) past = MayGrant p scene session guard past
Legal p scene (Query session guard store) past = MayQuery p scene session guard store past
Legal p scene (Issue session entry effect) past = MayIssue p scene session entry effect past
Legal p scene (Release session) past = Next p scene session Released past
Legal p scene (Return session value) past = Next p scene session (Returned value) past
Legal p scene (Refuse session (Barred holder guard)) past =
    MayRefuseBarred p scene session holder guard past
Legal p scene (Refuse session (Behind entry)) past = MayRefuseBehind p scene session entry past
Legal p scene (Deliver source target entry) past = MayDeliver scene source target entry past
Legal p scene (Cut a b) past = MayLink scene a b
Legal p scene (Join a b) past = MayLink scene a b

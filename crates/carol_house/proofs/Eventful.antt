-- The tables after each kind of event.
use Rattle.std.proofs.Common.{◌≡◌, ℕ, ◌<◌, Bool, true, false, cond, eqb, List, [], ◌∷◌, ◌++◌, ℤ, refl, sym, ◌∙◌, ap}
use Rattle.std.proofs.Math.ListN.{length-set}
use Rattle.std.specs.Prelude.{Some, not, ◌&&◌, slice_get}
use Rattle.std.specs.Vec.{with_item}
use Rattle.carol_store.specs.declared.effect.Atom.{Atom}
use Rattle.carol_store.specs.Kinds.{CellValue}
use Rattle.carol_store.specs.Stores.{apply}
use Rattle.carol_program.specs.Accords.{Accords}
use Rattle.carol_program.specs.Limits.{most_replicas}
use Rattle.carol_program.specs.Rules.{Rules}
use Rattle.carol_program.specs.declared.scenes.Scene.{Scene}
use Rattle.carol_program.specs.declared.scenes.SessionPlan.{SessionPlan}
use Rattle.carol_reading.specs.Marks.{Asked, Issued, Released, Returned}
use Rattle.carol_event.specs.declared.event.Cause.{Cause}
use Rattle.carol_event.specs.declared.event.Event.{Event}
use Rattle.carol_event.specs.declared.event.Event.TheVariants.{Grant, Query, Issue, Release, Return, Refuse, Deliver}
use Rattle.carol_history.specs.Acts.{Granted, Did, Refused, is_live}
use Rattle.carol_history.specs.Journals.{effect_at}
use Rattle.carol_history.specs.Laws.{GlobalGrows, LiveAfter}
use Rattle.carol_history.specs.Links.{is_pair}
use Rattle.carol_holding.specs.Held.{Adds, Holding}
use Rattle.carol_replica.specs.Entries.{Journal}
use Rattle.carol_replica.specs.Stored.{Changes, Replicas}
use Rattle.carol_grant.specs.Grants.{Closes, Grants, GrantsOne}
use Rattle.carol_machine.specs.States.{SessionState}
use Rattle.carol_house.specs.declared.tables.Tables.{Tables}
use Rattle.carol_house.specs.Kept.{AreGrants, AreTables, are_joined}
use Rattle.carol_house.specs.Moves.{link_event}
use Rattle.carol_house.proofs.Entries.{holding_issue, holding_deliver, locals_issue, locals_deliver, settled_issue, settled_deliver, joined_link}
use Rattle.carol_house.proofs.Sessions.{IsFed, machines_own}

-- the grants after one more, and after a session's were closed
granted_one : (past : List Event) → LiveAfter past → (session guard : ℕ) (old new : Grants) → AreGrants past old → GrantsOne old session guard new → AreGrants (Grant session guard ∷ past) new
granted_one past live session guard old new are grants s g =
    grants.each s g ∙ rw (are s g) (sym (live.granted session guard s g))

closed : (past : List Event) (event : Event) (session : ℕ) (old new : Grants) → ((s g : ℕ) → is_live s g (event ∷ past) ≡ (not (eqb session s) && is_live s g past)) → AreGrants past old → Closes old session new → AreGrants (event ∷ past) new
closed past event session old new ends are closes s g = closes.each s g ∙ rw (are s g) (sym (ends s g))

module _ (p : Rules) (accords : Accords) (scene : Scene) (past : List Event) (t : Tables) (k : AreTables p accords scene past t) where
  module _ (session : ℕ) (m new : SessionState) (at : slice_get t.machines.items session ≡ Some m) where
    pub tables_grant : LiveAfter past → (guard : ℕ) (grants : Grants) → IsFed m (Granted guard) new → GrantsOne t.grants session guard grants →
        AreTables p accords scene (Grant session guard ∷ past) (record t { machines = with_item t.machines session new; grants = grants })
    tables_grant live guard grants fed one = record {
      machines = machines_own scene past (Grant session guard) session (Granted guard) t.machines.items m new refl k.machines at fed;
      machine_each = length-set t.machines.items session new ∙ k.machine_each;
      grants = granted_one past live session guard t.grants grants k.grants one;
      grants_each = one.count ∙ k.grants_each;
      table = one.accords ∙ k.table;
      holding = k.holding;
      holding_each = k.holding_each;
      journal = k.journal;
      locals = k.locals;
      locals_each = k.locals_each;
      global = k.global;
      joined = k.joined;
      settled = k.settled;
    }

    pub tables_query : LiveAfter past → (guard : ℕ) (store : List CellValue) → IsFed m (Did (Asked guard store)) new →
        AreTables p accords scene (Query session guard store ∷ past) (record t { machines = with_item t.machines session new })
    tables_query live guard store fed = record {
      machines = machines_own scene past (Query session guard store) session (Did (Asked guard store)) t.machines.items m new refl k.machines at fed;
      machine_each = length-set t.machines.items session new ∙ k.machine_each;
      grants = λ s g. k.grants s g ∙ sym (live.queried session guard store s g);
      grants_each = k.grants_each;
      table = k.table;
      holding = k.holding;
      holding_each = k.holding_each;
      journal = k.journal;
      locals = k.locals;
      locals_each = k.locals_each;
      global = k.global;
      joined = k.joined;
      settled = k.settled;
    }

    pub tables_release : LiveAfter past → (grants : Grants) → IsFed m (Did Released) new → Closes t.grants session grants →
        AreTables p accords scene (Release session ∷ past) (record t { machines = with_item t.machines session new; grants = grants })
    tables_release live grants fed closes = record {
      machines = machines_own scene past (Release session) session (Did Released) t.machines.items m new refl k.machines at fed;
      machine_each = length-set t.machines.items session new ∙ k.machine_each;
      grants = closed past (Release session) session t.grants grants (live.released session) k.grants closes;
      grants_each = closes.count ∙ k.grants_each;
      table = closes.accords ∙ k.table;
      holding = k.holding;
      holding_each = k.holding_each;
      journal = k.journal;
      locals = k.locals;
      locals_each = k.locals_each;
      global = k.global;
      joined = k.joined;
      settled = k.settled;
    }

    pub tables_return : LiveAfter past → (value : ℤ) (grants : Grants) → IsFed m (Did (Returned value)) new → Closes t.grants session grants →
        AreTables p accords scene (Return session value ∷ past) (record t { machines = with_item t.machines session new; grants = grants })
    tables_return live value grants fed closes = record {
      machines = machines_own scene past (Return session value) session (Did (Returned value)) t.machines.items m new refl k.machines at fed;
      machine_each = length-set t.machines.items session new ∙ k.machine_each;
      grants = closed past (Return session value) session t.grants grants (live.returned session value) k.grants closes;
      grants_each = closes.count ∙ k.grants_each;
      table = closes.accords ∙ k.table;
      holding = k.holding;
      holding_each = k.holding_each;
      journal = k.journal;
      locals = k.locals;
      locals_each = k.locals_each;
      global = k.global;
      joined = k.joined;
      settled = k.settled;
    }

    pub tables_refuse : LiveAfter past → (cause : Cause) (grants : Grants) → IsFed m (Refused cause) new → Closes t.grants session grants →
        AreTables p accords scene (Refuse session cause ∷ past) (record t { machines = with_item t.machines session new; grants = grants })
    tables_refuse live cause grants fed closes = record {
      machines = machines_own scene past (Refuse session cause) session (Refused cause) t.machines.items m new refl k.machines at fed;
      machine_each = length-set t.machines.items session new ∙ k.machine_each;
      grants = closed past (Refuse session cause) session t.grants grants (live.refused session cause) k.grants closes;
      grants_each = closes.count ∙ k.grants_each;
      table = closes.accords ∙ k.table;
      holding = k.holding;
      holding_each = k.holding_each;
      journal = k.journal;
      locals = k.locals;
      locals_each = k.locals_each;
      global = k.global;
      joined = k.joined;
      settled = k.settled;
    }

    pub tables_issue : LiveAfter past → GlobalGrows p past → (entry : ℕ) (effect : List Atom) (plan : SessionPlan) (grants : Grants) (holding : Holding) (journal : Journal) (replicas : Replicas) → slice_get scene.sessions session ≡ Some plan → IsFed m (Did (Issued effect)) new → Closes t.grants session grants → Adds t.holding plan.replica entry holding → journal.entries ≡ t.journal.entries ++ effect ∷ [] → Changes p.shape t.replicas plan.replica effect replicas → replicas.global ≡ apply p.shape effect t.replicas.global →
        AreTables p accords scene (Issue session entry effect ∷ past) (record t { machines = with_item t.machines session new; grants = grants; holding = holding; journal = journal; replicas = replicas })
    tables_issue live grows entry effect plan grants holding journal replicas planned fed closes adds pushed changes whole = record {
      machines = machines_own scene past (Issue session entry effect) session (Did (Issued effect)) t.machines.items m new refl k.machines at fed;
      machine_each = length-set t.machines.items session new ∙ k.machine_each;
      grants = closed past (Issue session entry effect) session t.grants grants (live.issued session entry effect) k.grants closes;
      grants_each = closes.count ∙ k.grants_each;
      table = closes.accords ∙ k.table;
      holding = holding_issue scene past session entry effect plan t.holding holding planned k.holding adds;
      holding_each = adds.count ∙ k.holding_each;
      journal = pushed ∙ ap (λ (es : List (List Atom)). es ++ effect ∷ []) k.journal;
      locals = locals_issue p scene past session entry effect plan t.replicas replicas planned k.locals changes;
      locals_each = changes.count ∙ k.locals_each;
      global = whole ∙ ap (λ (s : List CellValue). apply p.shape effect s) k.global ∙ sym (grows session entry effect);
      joined = k.joined;
      settled = settled_issue p scene past session entry effect t.settled k.settled;
    }

  pub tables_deliver : (source target entry : ℕ) (effect : List Atom) (holding : Holding) (replicas : Replicas) → effect ≡ effect_at entry past → Adds t.holding target entry holding → Changes p.shape t.replicas target effect replicas → replicas.global ≡ t.replicas.global →
      AreTables p accords scene (Deliver source target entry ∷ past) (record t { holding = holding; replicas = replicas })
  tables_deliver source target entry effect holding replicas is adds changes whole = record {
    machines = k.machines;
    machine_each = k.machine_each;
    grants = k.grants;
    grants_each = k.grants_each;
    table = k.table;
    holding = holding_deliver scene past source target entry t.holding holding k.holding adds;
    holding_each = adds.count ∙ k.holding_each;
    journal = k.journal;
    locals = locals_deliver p scene past source target entry effect t.replicas replicas is k.locals changes;
    locals_each = changes.count ∙ k.locals_each;
    global = whole ∙ k.global;
    joined = k.joined;
    settled = settled_deliver p scene past source target entry t.settled k.settled;
  }

-- the links after a cut or a join
pub tables_link : (p : Rules) (accords : Accords) (scene : Scene) (past : List Event) (t : Tables) → AreTables p accords scene past t → (a b : ℕ) (up : Bool) (links : List (List Bool)) → ((x y : ℕ) → x < most_replicas → y < most_replicas → are_joined links x y ≡ cond (is_pair a b x y) up (are_joined t.links x y)) →
    AreTables p accords scene (link_event a b up ∷ past) (record t { links = links })
tables_link p accords scene past t k a b true links is = record {
  machines = k.machines;
  machine_each = k.machine_each;
  grants = k.grants;
  grants_each = k.grants_each;
  table = k.table;
  holding = k.holding;
  holding_each = k.holding_each;
  journal = k.journal;
  locals = k.locals;
  locals_each = k.locals_each;
  global = k.global;
  joined = joined_link past a b true t.links links k.joined is;
  settled = k.settled;
}
tables_link p accords scene past t k a b false links is = record {
  machines = k.machines;
  machine_each = k.machine_each;
  grants = k.grants;
  grants_each = k.grants_each;
  table = k.table;
  holding = k.holding;
  holding_each = k.holding_each;
  journal = k.journal;
  locals = k.locals;
  locals_each = k.locals_each;
  global = k.global;
  joined = joined_link past a b false t.links links k.joined is;
  settled = k.settled;
}

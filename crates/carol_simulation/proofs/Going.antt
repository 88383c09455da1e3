-- A session with a command under way always has an event to go on with.
use Rattle.std.proofs.Common.{◌≡◌, ◌≢◌, ℕ, ◌<◌, Bool, true, false, List, [], ◌∷◌, ◌++◌, length, ℤ, refl, sym, subst, ◌∙◌, inl, inr}
use Rattle.std.specs.Prelude.{◌⊎◌, MatchBool}
use Rattle.std.proofs.lemmas.Bool.{cases_Bool, cases_eq, false_from_ne_true}
use Rattle.carol_store.specs.declared.shape.CellKind.{CellKind}
use Rattle.carol_store.specs.declared.effect.Atom.{Atom}
use Rattle.carol_store.specs.Actions.{chosen_from}
use Rattle.carol_store.specs.Kinds.{CellValue}
use Rattle.carol_store.specs.Stores.{IsStore}
use Rattle.carol_formula.specs.Claim.{truth}
use Rattle.carol_program.specs.Accords.{Accords}
use Rattle.carol_program.specs.Bodies.{Body, Query, Issue, Release, Branch, Return}
use Rattle.carol_program.specs.Order.{IsBefore}
use Rattle.carol_program.specs.Preserving.{IsRight}
use Rattle.carol_program.specs.Rules.{Rules}
use Rattle.carol_program.specs.Variables.{number_of_args}
use Rattle.carol_program.specs.WellFormed.{IsFitBody, IsOpOver, Setting, setting_of}
use Rattle.carol_program.specs.declared.scenes.Scene.{Scene}
use Rattle.carol_reading.specs.Marks.{Mark, Asked, Issued, Released, Returned}
use Rattle.carol_reading.specs.Readings.{Reads, with_query}
use Rattle.carol_reading.proofs.Following.{stops}
use Rattle.carol_event.specs.declared.event.Cause.TheVariants.{Barred, Behind}
use Rattle.carol_event.specs.declared.event.Event.{Event}
use Rattle.carol_event.specs.declared.event.Event.TheVariants as event
use Rattle.carol_history.specs.Acts.{Next, acts, attempt, is_live, marks}
use Rattle.carol_history.specs.Journals.{journal, is_held, local}
use Rattle.carol_history.specs.Legal.{Admits, IsSettled, Lacks}
use Rattle.carol_history.specs.Links.{is_linked}
use Rattle.carol_history.specs.Runs.{Run}
use Rattle.carol_history.proofs.Actors.{at_place}
use Rattle.carol_history.proofs.Named.{live_named}
use Rattle.carol_simulation.specs.Upheld.{GoesOn, HasForced, MayRun, NobodyIsStuck}
use Rattle.carol_simulation.proofs.Deciding.{Decided, Fails, decide_admits, decide_settled, search_below}
use Rattle.carol_simulation.proofs.Queries.{store_after_all}
use Rattle.carol_simulation.proofs.Whole.{AreLaws, goes_on}

-- ---- queries that may be next

on_side : {A B C D : Type 0} (t : Bool) → MatchBool t A B → (A → C) → (B → D) → MatchBool t C D
on_side true h f g = f h
on_side false h f g = g h

from_side : {A B C : Type 0} (t : Bool) → MatchBool t A B → (A → C) → (B → C) → C
from_side true h f g = f h
from_side false h f g = g h

-- with another store
any_store : (kinds : List CellKind) (body : Body) (f : ℕ → ℤ) (before : List Mark) (guard : ℕ) (x y : List CellValue) → IsStore kinds y → Reads kinds body f (before ++ Asked guard x ∷ []) → Reads kinds body f (before ++ Asked guard y ∷ [])
any_store kinds (Query number q slot next) f [] guard x y is r = (r.0, is, stops kinds next (with_query slot y f))
any_store kinds (Query number q slot next) f (Asked g z ∷ before) guard x y is r = (r.0, r.1, any_store kinds next (with_query slot z f) before guard x y is r.2)
any_store kinds (Query number q slot next) f (Issued e ∷ before) guard x y is r = absurd r
any_store kinds (Query number q slot next) f (Released ∷ before) guard x y is r = absurd r
any_store kinds (Query number q slot next) f (Returned v ∷ before) guard x y is r = absurd r
any_store kinds (Issue number parts next) f [] guard x y is r = absurd r
any_store kinds (Issue number parts next) f (Asked g z ∷ before) guard x y is r = absurd r
any_store kinds (Issue number parts next) f (Issued e ∷ before) guard x y is r = (r.0, any_store kinds next f before guard x y is r.1)
any_store kinds (Issue number parts next) f (Released ∷ before) guard x y is r = absurd r
any_store kinds (Issue number parts next) f (Returned v ∷ before) guard x y is r = absurd r
any_store kinds (Release number next) f [] guard x y is r = absurd r
any_store kinds (Release number next) f (Asked g z ∷ before) guard x y is r = absurd r
any_store kinds (Release number next) f (Issued e ∷ before) guard x y is r = absurd r
any_store kinds (Release number next) f (Released ∷ before) guard x y is r = any_store kinds next f before guard x y is r
any_store kinds (Release number next) f (Returned v ∷ before) guard x y is r = absurd r
any_store kinds (Branch number test first second) f [] guard x y is r =
    on_side (truth test f) r (any_store kinds first f [] guard x y is) (any_store kinds second f [] guard x y is)
any_store kinds (Branch number test first second) f (m ∷ before) guard x y is r =
    on_side (truth test f) r (any_store kinds first f (m ∷ before) guard x y is) (any_store kinds second f (m ∷ before) guard x y is)
any_store kinds (Return number value) f [] guard x y is r = absurd r
any_store kinds (Return number value) f (Asked g z ∷ before) guard x y is r = absurd r
any_store kinds (Return number value) f (Issued e ∷ before) guard x y is r = absurd r
any_store kinds (Return number value) f (Released ∷ before) guard x y is r = absurd r
any_store kinds (Return number value) f (Returned v ∷ []) guard x y is r = absurd r
any_store kinds (Return number value) f (Returned v ∷ m ∷ before) guard x y is r = absurd r

-- of a guard that there is
ask_named : (kinds : List CellKind) (setting : Setting) (slots : List ℕ) (body : Body) (f : ℕ → ℤ) (before : List Mark) (guard : ℕ) (x : List CellValue) → IsFitBody setting slots body → Reads kinds body f (before ++ Asked guard x ∷ []) → guard < setting.guards
ask_named kinds setting slots (Query number q slot next) f [] guard x fit r = rw r.0 fit.0
ask_named kinds setting slots (Query number q slot next) f (Asked g z ∷ before) guard x fit r = ask_named kinds setting (slot ∷ slots) next (with_query slot z f) before guard x fit.1 r.2
ask_named kinds setting slots (Query number q slot next) f (Issued e ∷ before) guard x fit r = absurd r
ask_named kinds setting slots (Query number q slot next) f (Released ∷ before) guard x fit r = absurd r
ask_named kinds setting slots (Query number q slot next) f (Returned v ∷ before) guard x fit r = absurd r
ask_named kinds setting slots (Issue number parts next) f [] guard x fit r = absurd r
ask_named kinds setting slots (Issue number parts next) f (Asked g z ∷ before) guard x fit r = absurd r
ask_named kinds setting slots (Issue number parts next) f (Issued e ∷ before) guard x fit r = ask_named kinds setting slots next f before guard x fit.1 r.1
ask_named kinds setting slots (Issue number parts next) f (Released ∷ before) guard x fit r = absurd r
ask_named kinds setting slots (Issue number parts next) f (Returned v ∷ before) guard x fit r = absurd r
ask_named kinds setting slots (Release number next) f [] guard x fit r = absurd r
ask_named kinds setting slots (Release number next) f (Asked g z ∷ before) guard x fit r = absurd r
ask_named kinds setting slots (Release number next) f (Issued e ∷ before) guard x fit r = absurd r
ask_named kinds setting slots (Release number next) f (Released ∷ before) guard x fit r = ask_named kinds setting slots next f before guard x fit r
ask_named kinds setting slots (Release number next) f (Returned v ∷ before) guard x fit r = absurd r
ask_named kinds setting slots (Branch number test first second) f [] guard x fit r =
    from_side (truth test f) r (ask_named kinds setting slots first f [] guard x fit.1) (ask_named kinds setting slots second f [] guard x fit.2)
ask_named kinds setting slots (Branch number test first second) f (m ∷ before) guard x fit r =
    from_side (truth test f) r (ask_named kinds setting slots first f (m ∷ before) guard x fit.1) (ask_named kinds setting slots second f (m ∷ before) guard x fit.2)
ask_named kinds setting slots (Return number value) f [] guard x fit r = absurd r
ask_named kinds setting slots (Return number value) f (Asked g z ∷ before) guard x fit r = absurd r
ask_named kinds setting slots (Return number value) f (Issued e ∷ before) guard x fit r = absurd r
ask_named kinds setting slots (Return number value) f (Released ∷ before) guard x fit r = absurd r
ask_named kinds setting slots (Return number value) f (Returned v ∷ []) guard x fit r = absurd r
ask_named kinds setting slots (Return number value) f (Returned v ∷ m ∷ before) guard x fit r = absurd r

clash : true ≡ false → ⊥
clash e = cc

-- ---- what is decided

-- a linked replica lacks the entry
abbrev Away : Rules → Scene → List Event → ℕ → ℕ → ℕ → Type 0
Away p scene past entry home replica = is_linked replica home past ≡ true → is_held scene.sessions replica entry past ≡ false

decide_away : (p : Rules) (scene : Scene) (past : List Event) (entry home replica : ℕ) → Decided (Away p scene past entry home replica)
decide_away p scene past entry home replica = told (cases_Bool (is_held scene.sessions replica entry past)) (cases_Bool (is_linked replica home past))
  where
    told : (is_held scene.sessions replica entry past ≡ true) ⊎ (is_held scene.sessions replica entry past ≡ false) → (is_linked replica home past ≡ true) ⊎ (is_linked replica home past ≡ false) → Decided (Away p scene past entry home replica)
    told (inr lacking) l = inl (λ linked. lacking)
    told (inl held) (inr off) = inl (λ linked. absurd (clash (sym linked ∙ off)))
    told (inl held) (inl linked) = inr (λ away. clash (sym held ∙ away linked))

-- the other session's grant of the guard admits the effect; all its grants do
abbrev LetsBy : Rules → List Event → ℕ → List Atom → ℕ → ℕ → Type 0
LetsBy p past session effect other guard = other ≢ session → is_live other guard past ≡ true → Admits p guard effect

abbrev LetsIn : Rules → List Event → ℕ → List Atom → ℕ → Type 0
LetsIn p past session effect other = (guard : ℕ) → guard < length p.guards → LetsBy p past session effect other guard

decide_by : (p : Rules) (table : Accords) (right : IsRight p table) (past : List Event) (session : ℕ) (effect : List Atom) (other guard : ℕ) → Decided (LetsBy p past session effect other guard)
decide_by p table right past session effect other guard = told (cases_eq other session) (cases_Bool (is_live other guard past)) (decide_admits p table right guard effect)
  where
    told : (other ≡ session) ⊎ (other ≡ session → ⊥) → (is_live other guard past ≡ true) ⊎ (is_live other guard past ≡ false) → Decided (Admits p guard effect) → Decided (LetsBy p past session effect other guard)
    told (inl same) l d = inl (λ apart live. absurd (apart same))
    told (inr apart) (inr off) d = inl (λ ne live. absurd (clash (sym live ∙ off)))
    told (inr apart) (inl live) (inl within) = inl (λ ne on. within)
    told (inr apart) (inl live) (inr outside) = inr (λ lets. outside (lets apart live))

decide_lets : (p : Rules) (table : Accords) (right : IsRight p table) (past : List Event) (session : ℕ) (effect : List Atom) (other : ℕ) → Decided (LetsIn p past session effect other)
decide_lets p table right past session effect other = told (search_below (LetsBy p past session effect other) (decide_by p table right past session effect other) (length p.guards))
  where
    told : ((guard : ℕ) → guard < length p.guards → LetsBy p past session effect other guard) ⊎ Fails (LetsBy p past session effect other) (length p.guards) → Decided (LetsIn p past session effect other)
    told (inl all) = inl all
    told (inr f) = inr (λ lets. f.wrong (lets f.first f.low))

-- ---- one event

module _ (laws : AreLaws) (p : Rules) (scene : Scene) (table : Accords) (may : MayRun p scene) (right : IsRight p table) (past : List Event) (run : Run p scene past) (s : ℕ) where
  named : (guard : ℕ) (x : List CellValue) → Next p scene s (Asked guard x) past → guard < length p.guards
  named guard x next =
      let over : IsOpOver p.shape (length p.guards) next.op = at_place (IsOpOver p.shape (length p.guards)) p.ops next.way.command.op next.op may.rules.ops next.found
      in ask_named p.shape (setting_of p.shape (length p.guards) next.op) [] next.op.body (number_of_args next.way.command.args) (marks (attempt (acts s past))) guard x over.body next.reads

  local_is : (replica : ℕ) → IsStore p.shape (local p scene replica past)
  local_is replica = subst (IsStore p.shape) (sym (laws.orders p scene past run replica)) (store_after_all p.shape (chosen_from (λ entry. is_held scene.sessions replica entry past) 0 (journal past)) p.initial may.rules.store)

  -- a missing entry is brought, or out of reach
  missing : (entry : ℕ) → Lacks p scene s entry past → HasForced p scene s past
  missing entry lacks = found (search_below (Away p scene past entry lacks.next.way.plan.replica) (decide_away p scene past entry lacks.next.way.plan.replica) scene.replicas)
    where
      found : ((replica : ℕ) → replica < scene.replicas → Away p scene past entry lacks.next.way.plan.replica replica) ⊎ Fails (Away p scene past entry lacks.next.way.plan.replica) scene.replicas → HasForced p scene s past
      found (inl all) = record { event = event.Refuse s (Behind entry); forced = (refl, record { missing = lacks; nowhere = all }) }
      found (inr f) = record {
        event = event.Deliver f.first lacks.next.way.plan.replica entry;
        forced = record {
          missing = lacks;
          home = refl;
          from = f.low;
          linked = linked_at (cases_Bool (is_linked f.first lacks.next.way.plan.replica past));
          held = held_at (cases_Bool (is_held scene.sessions f.first entry past));
          lowest = f.before;
        };
      }
        where
          linked_at : (is_linked f.first lacks.next.way.plan.replica past ≡ true) ⊎ (is_linked f.first lacks.next.way.plan.replica past ≡ false) → is_linked f.first lacks.next.way.plan.replica past ≡ true
          linked_at (inl h) = h
          linked_at (inr off) = absurd (f.wrong (λ linked. absurd (clash (sym linked ∙ off))))

          held_at : (is_held scene.sessions f.first entry past ≡ true) ⊎ (is_held scene.sessions f.first entry past ≡ false) → is_held scene.sessions f.first entry past ≡ true
          held_at (inl h) = h
          held_at (inr lacking) = absurd (f.wrong (λ linked. lacking))

  -- a query is next
  at_query : (guard : ℕ) (x : List CellValue) → Next p scene s (Asked guard x) past → HasForced p scene s past
  at_query guard x next = asked (cases_Bool (is_live s guard past))
    where
      settle : is_live s guard past ≡ false → ((i : ℕ) → i < length (journal past) → IsSettled p scene next.way.plan.replica guard i past) ⊎ Fails (λ i. IsSettled p scene next.way.plan.replica guard i past) (length (journal past)) → HasForced p scene s past
      settle fresh (inl all) = record {
        event = event.Grant s guard;
        forced = (refl, record { store = x; next = next; named = named guard x next; fresh = fresh; settled = all });
      }
      settle fresh (inr f) = missing f.first (record {
        guard = guard;
        store = x;
        next = next;
        named = named guard x next;
        fresh = fresh;
        inside = f.low;
        lacking = false_from_ne_true (is_held scene.sessions next.way.plan.replica f.first past) (λ held. f.wrong (inl held));
        outside = λ within. f.wrong (inr within);
        lowest = f.before;
      })

      asked : (is_live s guard past ≡ true) ⊎ (is_live s guard past ≡ false) → HasForced p scene s past
      asked (inl live) = record {
        event = event.Query s guard (local p scene next.way.plan.replica past);
        forced = (
          refl,
          record {
            next = record {
              way = next.way;
              op = next.op;
              found = next.found;
              reads = any_store p.shape next.op.body (number_of_args next.way.command.args) (marks (attempt (acts s past))) guard x (local p scene next.way.plan.replica past) (local_is next.way.plan.replica) next.reads;
            };
            live = live;
            seen = refl;
          },
        );
      }
      asked (inr fresh) =
          settle fresh (search_below (λ i. IsSettled p scene next.way.plan.replica guard i past) (λ i. decide_settled p table right scene next.way.plan.replica guard i past) (length (journal past)))

  -- an issue is next
  at_issue : (effect : List Atom) → Next p scene s (Issued effect) past → HasForced p scene s past
  at_issue effect next = sessions (search_below (LetsIn p past s effect) (decide_lets p table right past s effect) (length scene.sessions))
    where
      guards : (f : Fails (LetsIn p past s effect) (length scene.sessions)) → ((g : ℕ) → g < length p.guards → LetsBy p past s effect f.first g) ⊎ Fails (LetsBy p past s effect f.first) (length p.guards) → HasForced p scene s past
      guards f (inl all) = absurd (f.wrong all)
      guards f (inr h) = record {
        event = event.Refuse s (Barred f.first h.first);
        forced = (
          refl,
          record {
            effect = effect;
            next = next;
            other = λ e. h.wrong (λ apart live. absurd (apart e));
            live = live_at (cases_Bool (is_live f.first h.first past));
            barring = λ within. h.wrong (λ apart live. within);
            lowest = lowest;
          },
        );
      }
        where
          live_at : (is_live f.first h.first past ≡ true) ⊎ (is_live f.first h.first past ≡ false) → is_live f.first h.first past ≡ true
          live_at (inl live) = live
          live_at (inr off) = absurd (h.wrong (λ apart live. absurd (clash (sym live ∙ off))))

          lowest : (t g : ℕ) → t ≢ s → is_live t g past ≡ true → IsBefore t g f.first h.first → Admits p g effect
          lowest t g apart live (inl below) = f.before t below g (live_named p scene past run t g live).1 apart live
          lowest t g apart live (inr before) = subst (λ u. LetsBy p past s effect u g) (sym before.0) (h.before g before.1) apart live

      sessions : ((t : ℕ) → t < length scene.sessions → LetsIn p past s effect t) ⊎ Fails (LetsIn p past s effect) (length scene.sessions) → HasForced p scene s past
      sessions (inl all) = record {
        event = event.Issue s (length (journal past)) effect;
        forced = (
          refl,
          record {
            next = next;
            number = refl;
            free = record { each = λ other guard apart live. let there = live_named p scene past run other guard live in all other there.0 guard there.1 apart live };
          },
        );
      }
      sessions (inr f) = guards f (search_below (LetsBy p past s effect f.first) (decide_by p table right past s effect f.first) (length p.guards))

  going : (mark : Mark) → Next p scene s mark past → HasForced p scene s past
  going (Asked guard x) next = at_query guard x next
  going (Issued effect) next = at_issue effect next
  going Released next = record { event = event.Release s; forced = (refl, next) }
  going (Returned value) next = record { event = event.Return s value; forced = (refl, next) }

pub nobody_is_stuck : AreLaws → NobodyIsStuck
nobody_is_stuck laws p scene table past may right run session way =
    let g : GoesOn p scene session past = goes_on laws p scene may past run session way
    in going laws p scene table may right past run session g.mark g.next

-- The one event that a session is to go on with, by what it wishes for.
use Rattle.std.proofs.Common.{◌≡◌, ℕ, true, false, List, length, refl, sym, subst, ◌∙◌, ap}
use Rattle.std.specs.Prelude.{None}
use Rattle.std.proofs.lemmas.Option.{same_Some}
use Rattle.carol_store.specs.declared.effect.Atom.{Atom}
use Rattle.carol_store.specs.Kinds.{CellValue}
use Rattle.carol_store.specs.Stores.{IsStore}
use Rattle.carol_program.specs.Rules.{Rules}
use Rattle.carol_program.specs.declared.scenes.Scene.{Scene}
use Rattle.carol_program.specs.declared.scenes.SessionPlan.{SessionPlan}
use Rattle.carol_reading.specs.Marks.{Asked, Issued}
use Rattle.carol_event.specs.declared.event.Cause.TheVariants.{Barred, Behind}
use Rattle.carol_event.specs.declared.event.Event.{Event}
use Rattle.carol_event.specs.declared.event.Event.TheVariants.{Grant, Query, Issue, Refuse, Deliver}
use Rattle.carol_history.specs.Acts.{Next, UnderWay}
use Rattle.carol_history.specs.Forced.{Forced}
use Rattle.carol_history.specs.Journals.{is_held, journal, local}
use Rattle.carol_history.specs.Legal.{IsFree, IsSettled, Lacks}
use Rattle.carol_history.specs.Links.{is_linked}
use Rattle.carol_machine.specs.declared.wish.Wish.TheVariants as wish
use Rattle.carol_house.proofs.Sound.{local_store}
use Rattle.carol_house.specs.Nexts.{GoesOnWith, IsBarredBy, IsFirstOutside, IsHolder, IsHome, IsLowestHolder, IsOutside}

module _ (p : Rules) (scene : Scene) (session : ℕ) (past : List Event) where
  -- the replica of the session
  home_is : (replica : ℕ) → IsHome scene session replica → (way : UnderWay scene session past) → replica ≡ way.plan.replica
  home_is replica home way =
      let same : home.plan ≡ way.plan = same_Some home.plan way.plan (sym home.planned ∙ way.planned)
      in home.is ∙ ap (λ (q : SessionPlan). q.replica) same

  pub query_forced : (guard : ℕ) (store : List CellValue) (replica : ℕ) → GoesOnWith p scene session (wish.Query guard) past → IsHome scene session replica → store ≡ local p scene replica past → Forced p scene session (Query session guard store) past
  query_forced guard store replica goes home seen =
      let is : IsStore p.shape store = rw seen (local_store p scene goes.start replica past)
      in let next : Next p scene session (Asked guard store) past = goes.next (Asked guard store) (refl, is)
      in (refl, record { next = next; live = goes.fit.1; seen = seen ∙ ap (λ (r : ℕ). local p scene r past) (home_is replica home next.way) })

  pub issue_forced : (entry : ℕ) (effect : List Atom) → GoesOnWith p scene session (wish.Issue effect) past → entry ≡ length (journal past) → IsFree p session effect past → Forced p scene session (Issue session entry effect) past
  issue_forced entry effect goes number free = (refl, record { next = goes.next (Issued effect) refl; number = number; free = free })

  pub barred_forced : (holder guard : ℕ) (effect : List Atom) → GoesOnWith p scene session (wish.Issue effect) past → IsBarredBy p session effect holder guard past → Forced p scene session (Refuse session (Barred holder guard)) past
  barred_forced holder guard effect goes bar = (
    refl,
    record {
      effect = effect;
      next = goes.next (Issued effect) refl;
      other = bar.other;
      live = bar.live;
      barring = bar.barring;
      lowest = bar.lowest;
    },
  )

  module _ (guard replica : ℕ) (goes : GoesOnWith p scene session (wish.Guard guard) past) (home : IsHome scene session replica) where
    next : Next p scene session (Asked guard p.initial) past
    next = goes.next (Asked guard p.initial) (refl, goes.start)

    here : replica ≡ next.way.plan.replica
    here = home_is replica home next.way

    pub grant_forced : IsFirstOutside p scene replica guard None past → Forced p scene session (Grant session guard) past
    grant_forced settled = (
      refl,
      record {
        store = p.initial;
        next = next;
        named = goes.fit.0;
        fresh = goes.fit.1;
        settled = λ entry inside. subst (λ (r : ℕ). IsSettled p scene r guard entry past) here (settled entry inside);
      },
    )

    module _ (entry : ℕ) (outside : IsOutside p scene replica guard entry past) where
      lacks : Lacks p scene session entry past
      lacks = record {
        guard = guard;
        store = p.initial;
        next = next;
        named = goes.fit.0;
        fresh = goes.fit.1;
        inside = outside.inside;
        lacking = subst (λ (r : ℕ). is_held scene.sessions r entry past ≡ false) here outside.lacking;
        outside = outside.outside;
        lowest = λ i below. subst (λ (r : ℕ). IsSettled p scene r guard i past) here (outside.lowest i below);
      }

      pub fetch_forced : (source : ℕ) → IsLowestHolder scene source replica entry past → Forced p scene session (Deliver source replica entry) past
      unfolding lacks
      fetch_forced source holds = record {
        missing = lacks;
        home = here;
        from = holds.from;
        linked = holds.linked;
        held = holds.held;
        lowest = holds.lowest;
      }

      pub behind_forced : IsHolder scene replica entry None past → Forced p scene session (Refuse session (Behind entry)) past
      unfolding lacks
      behind_forced nowhere = (
        refl,
        record {
          missing = lacks;
          nowhere = λ r inside. subst (λ (x : ℕ). is_linked r x past ≡ true → is_held scene.sessions r entry past ≡ false) here (nowhere r inside);
        },
      )

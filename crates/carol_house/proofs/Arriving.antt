-- Where an effect arrives, its store has room for it.
use Rattle.std.proofs.Common.{◌≡◌, ℕ, ◌<◌, List, [], length, get_or, refl, arith}
use Rattle.std.proofs.lemmas.Option.{slice_get-get_or}
use Rattle.carol_store.specs.declared.effect.Atom.{Atom}
use Rattle.carol_store.specs.Effects.{IsEffect}
use Rattle.carol_store.specs.Laws.{EffectsAddLittle}
use Rattle.carol_store.specs.Stores.{IsStore, StaysInWords}
use Rattle.carol_history.specs.declared.history.TheConstants.{MOST_EVENTS}
use Rattle.carol_history.specs.Journals.{effect_at, journal}
use Rattle.carol_history.specs.Laws.{HeldAreEntries}
use Rattle.carol_history.specs.Legal.{MayDeliver}
use Rattle.carol_history.proofs.Actors.{at_place}
use Rattle.carol_history.proofs.Low.{length-journal}
use Rattle.carol_simulation.specs.Upheld.{RunsUphold}
use Rattle.carol_simulation.proofs.Queries.{store_after_all}
use Rattle.carol_replica.specs.Stored.{local_at}
use Rattle.carol_house.specs.declared.tables.Tables.{Tables}
use Rattle.carol_house.specs.House.{House, rules_of}
use Rattle.carol_house.specs.Kept.{IsKept}
use Rattle.carol_house.proofs.Sound.{entries_fit, local_store, low_stays, upheld}

module _ (h : House) (t : Tables) (capacity : ℕ) (k : IsKept h t capacity) where
  pub store_there : (replica : ℕ) → replica < h.scene.replicas → IsStore (rules_of h).shape (local_at t.replicas replica)
  store_there replica inside = rw (k.tables.locals replica inside) (local_store (rules_of h) h.scene k.may.well_formed.rules.store replica h.history)

  pub global_there : IsStore (rules_of h).shape t.replicas.global
  global_there = rw k.tables.global (store_after_all (rules_of h).shape (journal h.history) (rules_of h).initial k.may.well_formed.rules.store)

  pub stays_there : RunsUphold → EffectsAddLittle → (effect : List Atom) → IsEffect (rules_of h).shape effect → (replica : ℕ) → replica < h.scene.replicas → StaysInWords (rules_of h).shape effect (local_at t.replicas replica)
  stays_there law little effect fits replica inside =
      low_stays little (rules_of h).shape effect (local_at t.replicas replica) fits (rw (k.tables.locals replica inside) ((upheld h t capacity k law).no_fault.local_low replica))

  pub stays_global : RunsUphold → EffectsAddLittle → (effect : List Atom) → IsEffect (rules_of h).shape effect → StaysInWords (rules_of h).shape effect t.replicas.global
  stays_global law little effect fits = low_stays little (rules_of h).shape effect t.replicas.global fits (rw k.tables.global (upheld h t capacity k law).no_fault.global_low)

  -- there are fewer entries than events
  pub few_entries : length h.history < MOST_EVENTS → length t.journal.entries < 131_072
  few_entries few = rw k.tables.journal (omega (arith, length-journal h.history))

  -- an entry that is delivered is one of the journal, and an effect of the shape
  pub delivered_inside : HeldAreEntries h.scene h.history → (source target entry : ℕ) → MayDeliver h.scene source target entry h.history → entry < length t.journal.entries
  delivered_inside held source target entry may = rw k.tables.journal (held source entry may.held)

  pub delivered_effect : (entry : ℕ) → get_or t.journal.entries entry [] ≡ effect_at entry h.history
  delivered_effect entry = rw k.tables.journal refl

  pub delivered_fits : RunsUphold → HeldAreEntries h.scene h.history → (source target entry : ℕ) → MayDeliver h.scene source target entry h.history → IsEffect (rules_of h).shape (get_or t.journal.entries entry [])
  delivered_fits law held source target entry may =
      let inside : entry < length t.journal.entries = delivered_inside held source target entry may
      in at_place (IsEffect (rules_of h).shape) t.journal.entries entry (get_or t.journal.entries entry []) (entries_fit h t capacity k law) (slice_get-get_or t.journal.entries entry [] inside)

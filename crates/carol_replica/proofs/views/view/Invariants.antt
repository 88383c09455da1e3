use Rattle.std.proofs.Common.{◌≡◌, drop}
use Rattle.std.specs.List.{AllByRecursion}
use Rattle.carol_store.specs.Actions.{chosen_from}
use Rattle.carol_store.specs.Effects.{IsEffect}
use Rattle.carol_store.specs.Stores.{IsStore, apply_all, StayInWords}
use Rattle.carol_holding.specs.Held.{holds}
use Rattle.carol_replica.specs.Entries.{held_entries}
use Rattle.carol_replica.proofs.views.view.Given as goal

abbrev pub invariant-loop-entry : goal.invariant-loop-entry
invariant-loop-entry l =
    let rest = chosen_from (λ i. holds l.holding l.replica i) l.entry (drop l.entry l.journal.entries)
    in record {
      whole : apply_all l.shape rest l.store ≡ apply_all l.shape (held_entries l.holding l.replica l.journal.entries) l.initial';
      store : IsStore l.shape l.store;
      effects : AllByRecursion (IsEffect l.shape) (drop l.entry l.journal.entries);
      words : StayInWords l.shape rest l.store;
    }

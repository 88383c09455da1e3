use Rattle.std.proofs.Common.{◌≡◌, drop}
use Rattle.std.specs.List.{AllByRecursion}
use Rattle.carol_store.specs.Effects.{IsEffect}
use Rattle.carol_store.specs.Stores.{IsStore, apply_all, StayInWords}
use Rattle.carol_replica.proofs.views.whole.Given as goal

abbrev pub invariant-loop-entry : goal.invariant-loop-entry
invariant-loop-entry l =
    let rest = drop l.entry l.journal.entries
    in record {
      whole : apply_all l.shape rest l.store ≡ apply_all l.shape l.journal.entries l.initial';
      store : IsStore l.shape l.store;
      effects : AllByRecursion (IsEffect l.shape) rest;
      words : StayInWords l.shape rest l.store;
    }

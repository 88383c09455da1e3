use Rattle.std.proofs.Common.{◌≡◌, ◌≤◌, ◌++◌, drop, length}
use Rattle.carol_store.specs.Directions.{directions}
use Rattle.carol_store.specs.Effects.{AreAtomsOf}
use Rattle.carol_store.proofs.effect.Effect.directions.Given as goal

abbrev pub invariant-loop-atom : goal.invariant-loop-atom
invariant-loop-atom l =
    (l.directions ++ directions l.shape (drop l.atom-index l.self) ≡ directions l.shape l.self)
    × (length l.directions ≤ l.atom-index)
    × AreAtomsOf l.shape (drop l.atom-index l.self)

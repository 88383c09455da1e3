use Rattle.std.proofs.Common.{◌≡◌, ◌<◌, ◌≤◌, ℕ, true, false, length}
use Rattle.carol_difference.specs.Edges.{Meets, edge_at}
use Rattle.carol_difference.specs.Forest.{IsForest, IsShallow, total_at}
use Rattle.carol_difference.proofs.forest.Forest.round.Given as goal

abbrev pub invariant-loop-number : goal.invariant-loop-number
invariant-loop-number l = record {
  forest : IsForest l.nodes l.edges l.self.entries.items l.self.latest.items;
  shallow : IsShallow l.nodes l.self.entries.items;
  grows : length l.fn.self.entries.items ≤ length l.self.entries.items;
  lower : l.is_lower ≡ true → length l.fn.self.entries.items < length l.self.entries.items;
  met : l.is_lower ≡ false → (k : ℕ) → k < l.number → Meets (total_at l.self.entries.items l.self.latest.items) (edge_at l.edges k);
}

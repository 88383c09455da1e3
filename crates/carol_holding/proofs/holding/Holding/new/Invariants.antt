use Rattle.std.proofs.Common.{◌≡◌, ℕ, length, false}
use Rattle.carol_holding.specs.Held.{has_at}
use Rattle.carol_holding.specs.Rows.{held_by}
use Rattle.carol_holding.proofs.holding.Holding.new.Given as goal

abbrev pub invariant-loop : goal.invariant-loop
invariant-loop l = record {
  count : length (held_by l.rows.items) ≡ l.counter;
  nothing : (r i : ℕ) → has_at (held_by l.rows.items) r i ≡ false;
}

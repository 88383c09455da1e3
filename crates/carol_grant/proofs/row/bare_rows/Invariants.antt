use Rattle.std.proofs.Common.{◌≡◌, length}
use Rattle.std.specs.List.{AllByRecursion}
use Rattle.carol_grant.specs.Kept.{IsBare}
use Rattle.carol_grant.proofs.row.bare_rows.Given as goal

abbrev pub invariant-loop : goal.invariant-loop
invariant-loop l = (length l.rows.items ≡ l.counter) × AllByRecursion IsBare l.rows.items

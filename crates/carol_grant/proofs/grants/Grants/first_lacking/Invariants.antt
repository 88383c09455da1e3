use Rattle.std.proofs.Common.{◌≡◌, ℕ, ◌<◌, false}
use Rattle.carol_grant.specs.Bars.{is_bar}
use Rattle.carol_grant.proofs.grants.Grants.first_lacking.Given as goal

abbrev pub invariant-loop-guard : goal.invariant-loop-guard
invariant-loop-guard l = (g : ℕ) → g < l.guard → is_bar l.self.accords l.row.live l.effect g ≡ false

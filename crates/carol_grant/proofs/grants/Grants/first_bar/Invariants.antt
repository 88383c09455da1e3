use Rattle.std.proofs.Common.{◌≡◌, ◌≢◌, ℕ, ◌<◌, true}
use Rattle.carol_program.specs.Admitting.{admits}
use Rattle.carol_grant.specs.Grants.{is_granted}
use Rattle.carol_grant.proofs.grants.Grants.first_bar.Given as goal

abbrev pub invariant-loop-holder : goal.invariant-loop-holder
invariant-loop-holder l =
    (s g : ℕ) → s < l.holder → s ≢ l.session → is_granted l.self s g ≡ true →
    admits l.self.accords g l.effect ≡ true

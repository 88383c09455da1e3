-- One more step of a session that is served.
use Rattle.std.proofs.Common.{ℕ, Ok, ◌+◌, ◌∙◌, arith}
use Rattle.carol_house.specs.declared.moved.Moved.TheVariants as moved
use Rattle.carol_worker.specs.Serving.{Went}
use Rattle.carol_worker.specs.Tally.{NoneFell, Stepped, Tally}

pub went_on : (old mid new : Tally) (session steps kind : ℕ) → Went old session steps mid → NoneFell mid new → Stepped mid session (Ok (moved.Entered kind)) new → Went old session (steps + 1) new
went_on old mid new session steps kind went fell stepped = record {
  entered = omega (arith, went.entered, fell.entered);
  rose = λ top. omega (arith, stepped.0 top, went.rose, went.entered, fell.entered);
  finished = stepped.1 ∙ went.finished;
  full = stepped.2 ∙ went.full;
  none = λ e. absurd (omega (arith, e));
  last = λ _. (kind, stepped.3);
}

use Rattle.std.proofs.Common.{◌≡◌, length}
use Rattle.carol_cert.specs.Place.{claims_at, IsPlace}
use Rattle.carol_cert.proofs.place.Place.count.Given as goal

-- the place that is left has as many items as the whole place
abbrev pub invariant-loop-place : goal.invariant-loop-place
invariant-loop-place l = record {
  right : IsPlace l.place;
  same : length (claims_at l.place) ≡ length (claims_at l.fn.self);
}

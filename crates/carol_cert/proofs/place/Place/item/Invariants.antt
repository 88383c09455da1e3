use Rattle.std.proofs.Common.{◌≡◌, slice_get}
use Rattle.carol_cert.specs.Place.{claims_at, IsPlace}
use Rattle.carol_cert.proofs.place.Place.item.Given as goal

-- at the number, the place that is left has what the whole place has
abbrev pub invariant-loop-place : goal.invariant-loop-place
invariant-loop-place l = record {
  right : IsPlace l.place;
  same : slice_get (claims_at l.place) l.at ≡ slice_get (claims_at l.fn.self) l.at;
}

use Rattle.std.proofs.Common.{length}
use Rattle.std.specs.Prelude.{◌↔◌}
use Rattle.carol_cert.specs.Columns.{EachVanishes}
use Rattle.carol_cert.specs.Place.{claims_at}
use Rattle.carol_cert.proofs.leaf.each_vanishes.Given as goal

-- all vanish exactly where those that are left do
abbrev pub invariant-loop-left : goal.invariant-loop-left
invariant-loop-left l = EachVanishes (claims_at l.place) l.steps l.left ↔ EachVanishes (claims_at l.place) l.steps l.fn.pairs

abbrev pub decreases-loop-left : goal.decreases-loop-left
decreases-loop-left l = length l.left

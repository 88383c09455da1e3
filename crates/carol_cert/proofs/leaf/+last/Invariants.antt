use Rattle.std.proofs.Common.{length}
use Rattle.carol_cert.proofs.leaf.+last.Given as goal

abbrev pub decreases-last : goal.decreases-last
decreases-last l = length l.steps.now

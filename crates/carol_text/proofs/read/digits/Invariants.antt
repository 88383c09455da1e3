use Rattle.std.proofs.Common.{◌≡◌, drop}
use Rattle.carol_text.specs.Number.{digits_after}
use Rattle.carol_text.proofs.read.digits.Given as goal

abbrev pub invariant-loop-at : goal.invariant-loop-at
invariant-loop-at l = digits_after l.most l.value (drop l.at l.bytes) ≡ digits_after l.most 0 l.bytes

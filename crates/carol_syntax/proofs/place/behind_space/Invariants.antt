use Rattle.std.proofs.Common.{◌≡◌, ◌+◌, ◌≤◌, false, length}
use Rattle.carol_syntax.specs.Place.{past_space, IsCounted}
use Rattle.carol_syntax.proofs.place.behind_space.Given as goal

abbrev pub invariant-loop-byte : goal.invariant-loop-byte
invariant-loop-byte l = record {
  past : past_space l.comment l.at l.rest ≡ past_space false l.fn.from l.bytes;
  counted : IsCounted l.at;
  offset : l.at.offset + length l.rest ≡ l.fn.from.offset + length l.bytes;
  within : length l.rest ≤ length l.bytes;
}

abbrev pub decreases-loop-byte : goal.decreases-loop-byte
decreases-loop-byte l = length l.rest

use Rattle.std.proofs.Common.{◌≡◌, ℕ, ◌*◌, ◌<◌, true}
use Rattle.carol_holding.specs.Marked.{is_marked}
use Rattle.carol_holding.proofs.marks.first_beyond.Given as goal

abbrev pub invariant-loop-at : goal.invariant-loop-at
invariant-loop-at l = (i : ℕ) → i < 64 * l.at → is_marked l.mine i ≡ true → is_marked l.theirs i ≡ true

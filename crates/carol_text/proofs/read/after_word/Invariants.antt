use Rattle.std.proofs.Common.{◌≡◌, ◌≤◌, length, drop}
use Rattle.carol_text.specs.Reading.{word_at}
use Rattle.carol_text.proofs.read.after_word.Given as goal

abbrev pub invariant-loop-at : goal.invariant-loop-at
invariant-loop-at l = record {
  within : l.at ≤ length l.bytes;
  rest : word_at (drop l.at l.word) (drop l.at l.bytes) ≡ word_at l.word l.bytes;
}

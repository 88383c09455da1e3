use Rattle.std.proofs.Common.{◌≡◌, ◌++◌, take}
use Rattle.carol_event.specs.Pushes.{numbers_text}
use Rattle.carol_event.proofs.push.push_numbers.Given as goal

-- the front of the list stands behind what was there
abbrev pub invariant-loop-number : goal.invariant-loop-number
invariant-loop-number l = l.out.items ≡ (l.fn.out.items ++ l.word) ++ numbers_text (take l.number-index l.numbers)

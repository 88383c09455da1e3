use Rattle.std.proofs.Common.{◌≡◌, ◌++◌, take}
use Rattle.carol_event.specs.Texts.{values_text}
use Rattle.carol_event.proofs.push.push_store.Given as goal

-- the front of the list stands behind what was there
abbrev pub invariant-loop-value : goal.invariant-loop-value
invariant-loop-value l = l.out.items ≡ l.fn.out.items ++ values_text (take l.value-index l.values)

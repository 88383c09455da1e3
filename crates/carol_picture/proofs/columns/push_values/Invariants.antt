use Rattle.std.proofs.Common.{◌≡◌, ◌++◌, drop}
use Rattle.carol_event.specs.Texts.{values_text}
use Rattle.carol_picture.proofs.columns.push_values.Given as goal

abbrev pub invariant-loop-value : goal.invariant-loop-value
invariant-loop-value l = l.out.items ++ values_text (drop l.value-index l.values) ≡ l.fn.out.items ++ values_text l.values

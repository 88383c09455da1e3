use Rattle.std.proofs.Common.{◌≡◌, ◌++◌, drop}
use Rattle.carol_print.specs.Pieces.{text_of}
use Rattle.carol_print.specs.Canonical.{fields}
use Rattle.carol_print.proofs.cells.push_fields.Given as goal

abbrev pub invariant-loop-field : goal.invariant-loop-field
invariant-loop-field l = l.out.items ++ text_of (fields (drop l.field-index l.fields)) ≡ l.fn.out.items ++ text_of (fields l.fields)

use Rattle.std.proofs.Common.{◌≡◌, ◌+◌, ◌++◌, length, map, drop}
use Rattle.carol_meaning.specs.Cells.{kind_of}
use Rattle.carol_names.proofs.kinds.push_fields.Given as goal

abbrev pub invariant-loop-field : goal.invariant-loop-field
invariant-loop-field l =
    (l.kinds ++ map (λ f. kind_of f.kind) (drop l.field-index l.fields) ≡ l.fn.kinds ++ map (λ f. kind_of f.kind) l.fields) ×
    (length l.kinds ≡ length l.fn.kinds + l.field-index)

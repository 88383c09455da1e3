use Rattle.std.proofs.Common.{◌≡◌, ◌+◌, ◌++◌, length, map, drop}
use Rattle.carol_names.proofs.starts.push_fields.Given as goal

abbrev pub invariant-loop-field : goal.invariant-loop-field
invariant-loop-field l =
    (l.starts ++ map (λ f. f.start) (drop l.field-index l.fields) ≡ l.fn.starts ++ map (λ f. f.start) l.fields) ×
    (length l.starts ≡ length l.fn.starts + l.field-index)

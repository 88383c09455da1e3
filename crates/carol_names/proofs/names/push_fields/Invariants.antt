use Rattle.std.proofs.Common.{◌≡◌, ◌++◌, map, drop}
use Rattle.carol_meaning.specs.Cells.{dotted}
use Rattle.carol_names.proofs.names.push_fields.Given as goal

abbrev pub invariant-loop-field : goal.invariant-loop-field
invariant-loop-field l =
    l.names ++ map (λ f. dotted l.group f.name) (drop l.field-index l.fields) ≡ l.fn.names ++ map (λ f. dotted l.group f.name) l.fields

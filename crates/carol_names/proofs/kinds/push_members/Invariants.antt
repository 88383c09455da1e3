use Rattle.std.proofs.Common.{◌≡◌, ◌+◌, ◌++◌, length, map, drop}
use Rattle.carol_store.specs.declared.shape.CellKind.TheVariants.{Flag}
use Rattle.carol_names.proofs.kinds.push_members.Given as goal

abbrev pub invariant-loop-member : goal.invariant-loop-member
invariant-loop-member l =
    (l.kinds ++ map (λ m. Flag) (drop l._member-index l.members) ≡ l.fn.kinds ++ map (λ m. Flag) l.members) ×
    (length l.kinds ≡ length l.fn.kinds + l._member-index)

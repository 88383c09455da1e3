use Rattle.std.proofs.Common.{◌≡◌, ◌+◌, ◌++◌, length, map, drop}
use Rattle.std.specs.Prelude.{pos}
use Rattle.carol_names.proofs.starts.push_members.Given as goal

abbrev pub invariant-loop-member : goal.invariant-loop-member
invariant-loop-member l =
    (l.starts ++ map (λ m. pos 0) (drop l._member-index l.members) ≡ l.fn.starts ++ map (λ m. pos 0) l.members) ×
    (length l.starts ≡ length l.fn.starts + l._member-index)

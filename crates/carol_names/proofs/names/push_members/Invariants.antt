use Rattle.std.proofs.Common.{◌≡◌, ◌++◌, map, drop}
use Rattle.carol_meaning.specs.Cells.{dotted}
use Rattle.carol_names.proofs.names.push_members.Given as goal

abbrev pub invariant-loop-member : goal.invariant-loop-member
invariant-loop-member l =
    l.names ++ map (dotted l.group) (drop l.member-index l.members) ≡ l.fn.names ++ map (dotted l.group) l.members

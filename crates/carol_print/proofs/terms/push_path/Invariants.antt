use Rattle.std.proofs.Common.{◌≡◌, ◌++◌, drop}
use Rattle.carol_print.specs.Pieces.{text_of}
use Rattle.carol_print.specs.Canonical.{after_dots, path}
use Rattle.carol_print.proofs.terms.push_path.Given as goal

abbrev pub invariant-loop-part : goal.invariant-loop-part
invariant-loop-part l =
    l.out.items ++ text_of (after_dots (drop l.part-index l.more)) ≡ l.fn.out.items ++ text_of (path l.fn.parts)

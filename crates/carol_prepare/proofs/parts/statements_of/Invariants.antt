use Rattle.std.proofs.Common.{◌≡◌, ◌++◌, map, drop}
use Rattle.carol_prepare.specs.Parts.{statement_of}
use Rattle.carol_prepare.proofs.parts.statements_of.Given as goal

abbrev pub invariant-loop-line : goal.invariant-loop-line
invariant-loop-line l = l.lines ++ map statement_of (drop l.line-index l.script) ≡ map statement_of l.fn.script

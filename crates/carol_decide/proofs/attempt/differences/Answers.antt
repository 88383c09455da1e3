use Rattle.std.proofs.Common.{ap, Err}
use Rattle.std.specs.Prelude.{pos}
use Rattle.carol_formula.specs.Linear.{constant_of}
use Rattle.carol_decide.proofs.attempt.differences.Goals as goal

pub returns-in-Err-NotDifference : goal.returns-in-Err-NotDifference
returns-in-Err-NotDifference c =
    let first = (c.in-Err-NotDifference.ensures.not_difference c.in-Err-NotDifference.field-0-0).0 (ap Err c.in-Err-NotDifference.field-0-is) in
    λ all. first.other (all c.in-Err-NotDifference.field-0-0 (record { 0 = constant_of (pos 0) }) first.known)

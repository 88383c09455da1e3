use Rattle.std.proofs.Common.{ap, ◌∙◌, Err}
use Rattle.carol_formula.specs.Linear.{difference_of}
use Rattle.carol_formula.specs.Claim.{Le}
use Rattle.carol_cert.specs.Cases.{above_zero}
use Rattle.carol_decide.proofs.Filling.{above_made, ready_fits}
use Rattle.carol_decide.proofs.table.above.Goals as goal

pub returns-in-Ok : goal.returns-in-Ok
returns-in-Ok c = ap Le c.in-Ok.ensures.ok.0 ∙ above_made c.args.term.now c.in_ok-whole.whole c.constant-one.result c.constant-one.ensures c.in_ok-whole.ensures

pub unreachable-requires : goal.unreachable-requires
unreachable-requires c =
    c.in-Err-TooWide.ensures.too_wide (ap Err c.in-Err-TooWide.field-0-is)
    (ready_fits (difference_of c.constant-one.result c.in_ok-whole.whole) (above_zero c.args.term.now) (above_made c.args.term.now c.in_ok-whole.whole c.constant-one.result c.constant-one.ensures c.in_ok-whole.ensures) c.requires)

use Rattle.std.proofs.Common.{ap, ◌∙◌, Err}
use Rattle.carol_formula.specs.Linear.{sum_of}
use Rattle.carol_formula.specs.Claim.{Le}
use Rattle.carol_cert.specs.Cases.{below_zero}
use Rattle.carol_decide.proofs.Filling.{below_made, ready_fits}
use Rattle.carol_decide.proofs.table.below.Goals as goal

pub returns-in-Ok : goal.returns-in-Ok
returns-in-Ok c = ap Le c.in-Ok.ensures.ok.0 ∙ below_made c.args.term.now c.in_ok-whole.whole c.constant-one.result c.constant-one.ensures c.in_ok-whole.ensures

pub unreachable-requires : goal.unreachable-requires
unreachable-requires c =
    c.in-Err-TooWide.ensures.too_wide (ap Err c.in-Err-TooWide.field-0-is)
    (ready_fits (sum_of c.in_ok-whole.whole c.constant-one.result) (below_zero c.args.term.now) (below_made c.args.term.now c.in_ok-whole.whole c.constant-one.result c.constant-one.ensures c.in_ok-whole.ensures) c.requires)

use Rattle.std.proofs.Common.{ap, subst, sym, Err}
use Rattle.carol_formula.specs.Bounds.{row_limit}
use Rattle.carol_formula.specs.Linear.{IsWithin}
use Rattle.carol_difference.specs.Rows.{AreDifference}
use Rattle.carol_decide.proofs.Filling.{reversed_made}
use Rattle.carol_decide.proofs.table.reversed.Goals as goal

pub returns-in-Ok-clause-narrow : goal.returns-in-Ok-clause-narrow
returns-in-Ok-clause-narrow c = subst (IsWithin row_limit) (sym c.in-Ok.ensures.ok.0) (reversed_made c.args.term.now c.in_ok-whole.whole c.requires c.in_ok-whole.ensures).narrow

pub returns-in-Ok-clause-difference : goal.returns-in-Ok-clause-difference
returns-in-Ok-clause-difference c = λ d. subst (λ t. AreDifference t.pairs) (sym c.in-Ok.ensures.ok.0) ((reversed_made c.args.term.now c.in_ok-whole.whole c.requires c.in_ok-whole.ensures).difference d)

pub unreachable-requires : goal.unreachable-requires
unreachable-requires c =
    c.in-Err-TooWide.ensures.too_wide (ap Err c.in-Err-TooWide.field-0-is) (reversed_made c.args.term.now c.in_ok-whole.whole c.requires c.in_ok-whole.ensures).fits

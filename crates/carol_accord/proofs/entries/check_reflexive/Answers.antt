use Rattle.std.proofs.Common.{refl, sym, subst, ◌≤◌}
use Rattle.carol_formula.specs.Claim.{Claim}
use Rattle.carol_formula.specs.Tree.{claim_of}
use Rattle.carol_program.specs.Rules.{rules_in}
use Rattle.carol_formula.specs.Size.{nodes_of, IsLight}
use Rattle.carol_accord.specs.Parts.{IsGuard, most_formula}
use Rattle.carol_accord.proofs.Ended.{equal_yes, equal_no, equal_open}
use Rattle.carol_accord.proofs.Light.{equal_light, equal_nodes}
use Rattle.carol_accord.proofs.entries.check_reflexive.Goals as goal

pub decided-requires-clause-light : goal.decided-requires-clause-light
decided-requires-clause-light c =
    let g : IsGuard c.kinds.result.now (claim_of c.args.guard.now) = subst (λ ks. IsGuard ks (claim_of c.args.guard.now)) (sym c.kinds.ensures.kinds) c.requires
    in subst IsLight (sym c.in_ok-formula.ensures) (equal_light c.kinds.result.now (claim_of c.args.guard.now) g)

pub decided-requires-clause-small : goal.decided-requires-clause-small
decided-requires-clause-small c =
    let g : IsGuard c.kinds.result.now (claim_of c.args.guard.now) = subst (λ ks. IsGuard ks (claim_of c.args.guard.now)) (sym c.kinds.ensures.kinds) c.requires
    in subst (λ (d : Claim). nodes_of d ≤ most_formula) (sym c.in_ok-formula.ensures) (equal_nodes c.kinds.result.now (claim_of c.args.guard.now) g)

pub returns-in-Unsat-clause-ok : goal.returns-in-Unsat-clause-ok
returns-in-Unsat-clause-ok c = equal_yes (rules_in c.args.program.now) (claim_of c.args.guard.now) c.requires c.kinds.result.now c.kinds.ensures.kinds (claim_of c.in_ok-formula.formula) c.in_ok-formula.ensures c.in_ok-decided.field-0 c.in_ok-decided.ensures c.in-Unsat.field-0 c.in-Unsat.is

pub returns-in-Sat-clause-err : goal.returns-in-Sat-clause-err
returns-in-Sat-clause-err c = (refl, equal_no (rules_in c.args.program.now) (claim_of c.args.guard.now) c.requires c.kinds.result.now c.kinds.ensures.kinds (claim_of c.in_ok-formula.formula) c.in_ok-formula.ensures c.in_ok-decided.field-0 c.in_ok-decided.ensures c.in-Sat.at c.in-Sat.is)

pub returns-clause-err : goal.returns-clause-err
returns-clause-err c = (refl, equal_open (rules_in c.args.program.now) (claim_of c.args.guard.now) c.requires c.kinds.result.now c.kinds.ensures.kinds (claim_of c.in_ok-formula.formula) c.in_ok-formula.ensures c.in_ok-decided.field-0 c.in_ok-decided.ensures c.in-Undecided.why c.in-Undecided.is)

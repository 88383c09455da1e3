use Rattle.std.proofs.Common.{arith, sym, true, subst, ◌≤◌}
use Rattle.carol_formula.specs.Bounds.{narrow_limit}
use Rattle.carol_formula.specs.Claim.{Claim, ClaimWithin}
use Rattle.carol_formula.specs.Tree.{claim_of}
use Rattle.carol_formula.specs.Size.{nodes_of}
use Rattle.carol_accord.proofs.Answering.{answered}
use Rattle.carol_formula.proofs.Light.{narrow_light, narrow_without_not, nodes-without_not}
use Rattle.carol_accord.proofs.deciding.decided.Goals as goal

pub negation_form-requires : goal.negation_form-requires
negation_form-requires c = narrow_light (claim_of c.args.formula.now) c.requires.light

pub decide_with-requires-clause-narrow : goal.decide_with-requires-clause-narrow
decide_with-requires-clause-narrow c = subst (ClaimWithin narrow_limit) (sym (c.in_ok-plain.ensures.form)) (narrow_without_not true (claim_of c.args.formula.now) c.requires.light)

pub decide_with-requires-clause-small : goal.decide_with-requires-clause-small
decide_with-requires-clause-small c = subst (λ (d : Claim). nodes_of d ≤ 65536) (sym (c.in_ok-plain.ensures.form)) (omega (arith, nodes-without_not true (claim_of c.args.formula.now), c.requires.small))

pub returns : goal.returns
returns c = answered (claim_of c.args.formula.now) (claim_of c.in_ok-plain.plain) c.decide_with.result c.in_ok-plain.ensures.truth c.in_ok-plain.ensures.form c.decide_with.ensures.answer c.decide_with.ensures.settles

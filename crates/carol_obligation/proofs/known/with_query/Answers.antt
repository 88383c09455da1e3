use Rattle.std.proofs.Common.{arith, subst}
use Rattle.std.specs.Prelude.{IsSomeAnd}
use Rattle.std.proofs.lemmas.List.{length-map}
use Rattle.carol_formula.specs.Tree.{claim_of}
use Rattle.carol_program.specs.Rules.{guard_claim, rules_in}
use Rattle.carol_program.specs.Variables.{guard_variables}
use Rattle.carol_program.specs.WellFormed.{IsFormulaOver}
use Rattle.carol_obligation.proofs.Light.{nameable_guard}
use Rattle.carol_obligation.proofs.Sizes.{each_at}
use Rattle.carol_obligation.proofs.known.with_query.Goals as goal

pub renamed-requires : goal.renamed-requires
renamed-requires c =
    let p = rules_in c.args.program.now in
    let over = IsFormulaOver (guard_variables p.shape) in
    let guard = subst (λ o. IsSomeAnd o over) c.guard_of.ensures (each_at over p.guards c.args.guard c.requires.rules.guards (omega (arith, c.requires.guard, length-map c.args.program.now.guards guard_claim))) in
    nameable_guard p.shape c.args.slot c.args.round (claim_of c.guard_of.result.now) c.requires.rules.few_cells c.requires.slot c.requires.round guard.terms

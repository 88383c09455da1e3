use Rattle.std.proofs.Common.{rules, ◌∙◌, ap}
use Rattle.std.specs.Int.{w128}
use Rattle.std.proofs.lemmas.Int.{to_z-of_z}
use Rattle.carol_formula.specs.Linear.{Linear}
use Rattle.carol_formula.specs.Value.{value_at}
use Rattle.carol_formula.proofs.Renamings.{renamed_step, renamed_end, value_at-named_term}
use Rattle.carol_formula.proofs.renaming.renamed_term.Goals as goal

pub loop-product-preserved : goal.loop-product-preserved
loop-product-preserved g c = renamed_step _ _ _ _ c.loop-product.invariant c.in-Some.ensures.cases.0 (to_z-of_z w128 c.in-Some.product.now.1 (search rules)) c.in_ok-sum.ensures

pub returns-clause-value : goal.returns-clause-value
returns-clause-value g c = λ at. ap (λ (u : Linear). value_at u at) (renamed_end _ c.loop-product.invariant c.in_default.ensures.cases) ∙ value_at-named_term (g.N.Naming.name_of c.args.naming.now) c.args.term.now at

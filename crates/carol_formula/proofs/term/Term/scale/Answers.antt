use Rattle.std.proofs.Common.{◌∙◌, ap}
use Rattle.std.specs.Prelude.{ℤ}
use Rattle.std.specs.Int.{w128}
use Rattle.std.proofs.lemmas.Int.{to_z-of_z}
use Rattle.carol_formula.specs.Linear.{Linear, plus_of}
use Rattle.carol_formula.specs.Value.{value_at}
use Rattle.carol_formula.proofs.Sums.{value_at-scaled}
use Rattle.carol_formula.proofs.Terms.{ok_values, plus_of-zero}
use Rattle.carol_formula.proofs.term.Term.scale.Goals as goal

pub returns-clause-value : goal.returns-clause-value
returns-clause-value c = ok_values _ c.plus-2.result c.plus-2.ensures.ok (λ f. ap (λ (k : ℤ). value_at (plus_of c.constant.result k c.args.self.now) f) (to_z-of_z w128 c.args.by c.ranges.by) ∙ ap (λ (z : Linear). value_at (plus_of z c.args.by c.args.self.now) f) c.constant.ensures ∙ ap (λ (u : Linear). value_at u f) (plus_of-zero c.args.by c.args.self.now) ∙ value_at-scaled c.args.by c.args.self.now f)

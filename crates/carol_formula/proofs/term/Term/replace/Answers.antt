use Rattle.std.proofs.Common.{rules, ◌≡◌, ◌∙◌, subst}
use Rattle.std.specs.Prelude.{IfOk}
use Rattle.std.specs.Int.{w128}
use Rattle.std.proofs.lemmas.Int.{to_z-of_z}
use Rattle.carol_formula.specs.Bounds.{term_limit}
use Rattle.carol_formula.specs.Linear.{Linear, IsTerm, IsWithin}
use Rattle.carol_formula.proofs.Terms.{replaced_from}
use Rattle.carol_formula.proofs.term.Term.replace.Goals as goal

pub returns-clause-ok : goal.returns-clause-ok
returns-clause-ok c = subst (λ (u : Linear). IfOk c.plus.result (λ t. (t ≡ u) × IsTerm t)) (replaced_from c.args.v c.args.by.now c.args.self.now _ _ c.in_ok-others.ensures (to_z-of_z w128 c.coefficient.result (search rules) ∙ c.coefficient.ensures.value)) c.plus.ensures.ok

pub returns-clause-too_wide : goal.returns-clause-too_wide
returns-clause-too_wide c = λ w. subst (λ (u : Linear). ¬ IsWithin term_limit u) (replaced_from c.args.v c.args.by.now c.args.self.now _ _ c.in_ok-others.ensures (to_z-of_z w128 c.coefficient.result (search rules) ∙ c.coefficient.ensures.value)) (c.plus.ensures.too_wide w)

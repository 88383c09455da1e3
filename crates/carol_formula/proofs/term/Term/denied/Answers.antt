use Rattle.std.proofs.Common.{rules, sym, subst}
use Rattle.carol_formula.specs.Bounds.{term_limit}
use Rattle.carol_formula.specs.Linear.{Linear, IsTerm, IsWithin, difference_of}
use Rattle.carol_formula.proofs.Terms.{denial_within}
use Rattle.carol_formula.proofs.term.Term.denied.Goals as goal

pub unreachable-requires : goal.unreachable-requires
unreachable-requires c = c.sub.ensures.too_wide (search rules) (subst (λ (u : Linear). IsWithin term_limit (difference_of u c.args.self.now)) (sym c.constant-one.ensures) (denial_within c.args.self.now (subst IsTerm c.self.view_is c.self.invariant) c.requires))

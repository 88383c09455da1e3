use Rattle.std.proofs.Common.{rules}
use Rattle.carol_syntax.specs.declared.formulas.FormulaDecl.{the_lemmas}
use Rattle.carol_syntax.specs.Formulas.{formula_tree}
use Rattle.carol_names.proofs.Meanings.{both-faults, either-faults}
use Rattle.carol_names.proofs.formulas.+formula.Goals as goal

pub returns-in_ok-right-in-And-2-clause-faults : goal.returns-in_ok-right-in-And-2-clause-faults
returns-in_ok-right-in-And-2-clause-faults g t c =
    both-faults (g.G.Ground.look c.args.place.now) (formula_tree c.args.formula.now) (formula_tree c.get-in-And.result.now) (formula_tree c.get-in-And-2.result.now) _ _ _
    (search (rules, the_lemmas)) c.in_ok-left-in-And.ensures.faults c.in_ok-right-in-And.ensures.faults

pub returns-in_ok-right-in-Or-2-clause-faults : goal.returns-in_ok-right-in-Or-2-clause-faults
returns-in_ok-right-in-Or-2-clause-faults g t c =
    either-faults (g.G.Ground.look c.args.place.now) (formula_tree c.args.formula.now) (formula_tree c.get-in-Or.result.now) (formula_tree c.get-in-Or-2.result.now) _ _ _
    (search (rules, the_lemmas)) c.in_ok-left-in-Or.ensures.faults c.in_ok-right-in-Or.ensures.faults

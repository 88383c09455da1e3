use Rattle.std.proofs.Common.{rules}
use Rattle.carol_syntax.specs.declared.formulas.FormulaDecl.{the_lemmas}
use Rattle.carol_syntax.specs.Formulas.{formula_tree}
use Rattle.carol_print.proofs.FormulaTexts.{on_ok, denial_done, both_done, either_done, comparison_done}
use Rattle.carol_print.proofs.formulas.+push_formula.Goals as goal

pub returns-in_ok-push_formula-in-Not : goal.returns-in_ok-push_formula-in-Not
returns-in_ok-push_formula-in-Not t c =
    on_ok _ c.push_closing.ensures
    (denial_done (formula_tree c.args.formula.now) (formula_tree c.get-inner.result.now) _ _ _ _ _ _ (search (rules, the_lemmas)) c.is_joined-needed.ensures
    c.in_ok-push_text-in-Not.ensures c.in_ok-push_opening-in-Not.ensures c.in_ok-push_formula-in-Not.ensures)

pub returns-in_ok-push_formula-in-And-2 : goal.returns-in_ok-push_formula-in-And-2
returns-in_ok-push_formula-in-And-2 t c =
    on_ok _ c.push_closing-in-And-2.ensures
    (both_done (formula_tree c.args.formula.now) (formula_tree c.get-left.result.now) (formula_tree c.get-right.result.now) _ _ _ _ _ _ _ _ _ _ (search (rules, the_lemmas))
    c.is_either-left_needed.ensures c.is_joined-right_needed.ensures
    c.in_ok-push_opening-in-And.ensures c.in_ok-push_formula-in-And.ensures c.in_ok-push_closing-in-And.ensures
    c.in_ok-push_text-in-And.ensures c.in_ok-push_opening-in-And-2.ensures c.in_ok-push_formula-in-And-2.ensures)

pub returns-in_ok-push_formula-in-Or-2 : goal.returns-in_ok-push_formula-in-Or-2
returns-in_ok-push_formula-in-Or-2 t c =
    on_ok _ c.push_closing-in-Or.ensures
    (either_done (formula_tree c.args.formula.now) (formula_tree c.get-left-in-Or.result.now) (formula_tree c.get-right-in-Or.result.now) _ _ _ _ _ _ _ (search (rules, the_lemmas))
    c.is_either-needed.ensures
    c.in_ok-push_formula-in-Or.ensures c.in_ok-push_text-in-Or.ensures c.in_ok-push_opening-in-Or.ensures c.in_ok-push_formula-in-Or-2.ensures)

pub returns-in_ok-push_sign-in-Compare : goal.returns-in_ok-push_sign-in-Compare
returns-in_ok-push_sign-in-Compare t c =
    on_ok _ c.push_term-in-Compare.ensures
    (comparison_done (formula_tree c.args.formula.now) c.in-Compare.left c.in-Compare.right c.in-Compare.sign _ _ _ _ (search (rules, the_lemmas))
    c.in_ok-push_term-in-Compare.ensures c.in_ok-push_sign-in-Compare.ensures)

use Rattle.std.proofs.Common.{◌≡◌, rules}
use Rattle.carol_syntax.specs.declared.bodies.Body.{the_lemmas}
use Rattle.carol_syntax.specs.Formulas.{formula_tree}
use Rattle.carol_syntax.specs.Bodies.{Return, If, body_tree}
use Rattle.carol_print.proofs.Lines.{answer_text, choice_text}
use Rattle.carol_print.proofs.bodies.+push_inside.Goals as goal

pub returns-in_ok-push_text-in-Return-2 : goal.returns-in_ok-push_text-in-Return-2
returns-in_ok-push_text-in-Return-2 t c =
    let tree : body_tree c.args.body.now ≡ Return c.args.body.now.plain c.in-Return.term = search (rules, the_lemmas) in
    rw (c.in_ok-push_text-in-Return-2.ensures, c.in_ok-push_term-in-Return.ensures, c.in_ok-push_text-in-Return.ensures, c.in_ok-push_all.ensures, c.as_slice.ensures, tree)
    (answer_text c.args.body.now.plain c.in-Return.term c.args.out.now.items)

pub returns-in_ok-push_text-in-If-4 : goal.returns-in_ok-push_text-in-If-4
returns-in_ok-push_text-in-If-4 t c =
    let tree : body_tree c.args.body.now ≡ If c.args.body.now.plain (formula_tree c.in-If.test) (body_tree c.in-If.yes) (body_tree c.in-If.no) = search (rules, the_lemmas) in
    rw (c.in_ok-push_text-in-If-4.ensures, c.in_ok-push_inside-in-If-2.ensures, c.in_ok-push_text-in-If-3.ensures, c.in_ok-push_inside-in-If.ensures, c.in_ok-push_text-in-If-2.ensures, c.in_ok-push_formula-in-If.ensures, c.in_ok-push_text-in-If.ensures, c.in_ok-push_all.ensures, c.as_slice.ensures, tree)
    (choice_text c.args.body.now.plain (formula_tree c.in-If.test) (body_tree c.in-If.yes) (body_tree c.in-If.no) c.args.out.now.items)

use Rattle.carol_print.proofs.Lines.{let_text, issue_text}
use Rattle.carol_print.proofs.bodies.StatementPrinted.push_to.Goals as goal

pub returns-in_ok-push_text-in-Let-3 : goal.returns-in_ok-push_text-in-Let-3
returns-in_ok-push_text-in-Let-3 c =
    rw (c.in_ok-push_text-in-Let-3.ensures, c.in_ok-push_term-in-Let.ensures, c.in_ok-push_text-in-Let-2.ensures, c.in_ok-push_to-in-Let.ensures, c.in_ok-push_text-in-Let.ensures, c.in-Let.is)
    (let_text c.in-Let.name c.in-Let.term c.args.out.now.items)

pub returns-in_ok-push_text-in-Issue-2 : goal.returns-in_ok-push_text-in-Issue-2
returns-in_ok-push_text-in-Issue-2 c =
    rw (c.in_ok-push_text-in-Issue-2.ensures, c.in_ok-push_with_commas-in-Issue.ensures, c.as_slice.ensures, c.in_ok-push_text-in-Issue.ensures, c.in-Issue.is)
    (issue_text c.in-Issue.atoms c.args.out.now.items)

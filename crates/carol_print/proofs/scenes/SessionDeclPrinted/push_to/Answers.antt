use Rattle.carol_print.proofs.Parts.{session_text}
use Rattle.carol_print.proofs.scenes.SessionDeclPrinted.push_to.Goals as goal

pub returns : goal.returns
returns c =
    rw (c.in_ok-push_text-3.ensures, c.in_ok-push_all.ensures, c.as_slice.ensures, c.in_ok-push_text-2.ensures, c.in_ok-push_integer.ensures.ok, c.in_ok-push_text.ensures)
    (session_text c.args.self.now c.args.out.now.items)

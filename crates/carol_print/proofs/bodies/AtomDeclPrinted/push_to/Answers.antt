use Rattle.carol_print.proofs.Lines.{atom_text}
use Rattle.carol_print.proofs.bodies.AtomDeclPrinted.push_to.Goals as goal

pub returns : goal.returns
returns c =
    rw (c.in_ok-push_change.ensures, c.in_ok-push_text.ensures, c.in_ok-push_path.ensures, c.as_slice.ensures) (atom_text c.args.self.now c.args.out.now.items)

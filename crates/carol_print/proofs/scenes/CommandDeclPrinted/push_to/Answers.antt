use Rattle.carol_print.proofs.Parts.{command_text}
use Rattle.carol_print.proofs.scenes.CommandDeclPrinted.push_to.Goals as goal

pub returns : goal.returns
returns c =
    rw (c.in_ok-push_text-3.ensures, c.in_ok-push_times.ensures, c.in_ok-push_text-2.ensures, c.in_ok-push_with_commas.ensures, c.as_slice.ensures, c.in_ok-push_text.ensures, c.in_ok-push_to.ensures)
    (command_text c.args.self.now c.args.out.now.items)

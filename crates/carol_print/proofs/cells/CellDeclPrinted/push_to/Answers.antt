use Rattle.carol_print.proofs.Lines.{set_text, record_text}
use Rattle.carol_print.proofs.cells.CellDeclPrinted.push_to.Goals as goal

pub returns-in_ok-push_text-in-Set-3 : goal.returns-in_ok-push_text-in-Set-3
returns-in_ok-push_text-in-Set-3 c =
    rw (c.in_ok-push_text-in-Set-3.ensures, c.in_ok-push_with_commas-in-Set.ensures, c.as_slice.ensures, c.in_ok-push_text-in-Set-2.ensures, c.in_ok-push_to-in-Set.ensures, c.in_ok-push_text-in-Set.ensures, c.in-Set.is)
    (set_text c.in-Set.name c.in-Set.members c.args.out.now.items)

pub returns-in_ok-push_text-in-Record-3 : goal.returns-in_ok-push_text-in-Record-3
returns-in_ok-push_text-in-Record-3 c =
    rw (c.in_ok-push_text-in-Record-3.ensures, c.in_ok-push_fields-in-Record.ensures, c.as_slice-in-Record.ensures, c.in_ok-push_text-in-Record-2.ensures, c.in_ok-push_to-in-Record.ensures, c.in_ok-push_text-in-Record.ensures, c.in-Record.is)
    (record_text c.in-Record.name c.in-Record.fields c.args.out.now.items)

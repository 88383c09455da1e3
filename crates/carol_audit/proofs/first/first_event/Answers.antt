use Rattle.std.proofs.Common.{sym}
use Rattle.carol_audit.proofs.Cutting.{finds_cut, finds_whole}
use Rattle.carol_audit.proofs.first.first_event.Goals as goal

pub returns-in-Some : goal.returns-in-Some
returns-in-Some c =
    finds_whole c.args.bytes.now c.in-Some.end c.args.line c.whole_line.result (sym c.in-Some.ensures) (rw c.split_at.ensures.front at c.whole_line.ensures)

pub returns-in-None : goal.returns-in-None
returns-in-None c = finds_cut c.args.bytes.now c.args.line c.cut_line.result (sym c.in-None.ensures) c.cut_line.ensures

use Rattle.std.proofs.Common.{refl}
use Rattle.carol_accept.proofs.AccordTexts.{ways_there}
use Rattle.carol_accept.proofs.text.push_cell.Goals as goal

pub loop-up-init : goal.loop-up-init
loop-up-init c = rw c.ways-left.ensures (refl, ways_there c.args.table.now.kinds c.args.cell c.args.kind c.requires.kind)

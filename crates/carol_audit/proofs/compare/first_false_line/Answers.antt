use Rattle.carol_audit.proofs.Parting.{parting_tells}
use Rattle.carol_audit.proofs.compare.first_false_line.Goals as goal

pub returns-clause-tells : goal.returns-clause-tells
returns-clause-tells c = parting_tells c.args.right.now c.args.text.now c.parting_line.result c.parting_line.ensures.found

use Rattle.std.proofs.Common.{length, refl}
use Rattle.carol_audit.proofs.Rulings.{finds_if_ok}
use Rattle.carol_audit.proofs.finding.find.Goals as goal

pub returns : goal.returns
returns c =
    finds_if_ok c.args.accepted c.args.scene c.args.events.now c.args.tail.now c.in_ok-ruling.ruling (length c.args.events.now) c.finding_of.result
    c.in_ok-ruling.ensures c.requires.read refl c.finding_of.ensures

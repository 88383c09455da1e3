use Rattle.carol_audit.proofs.Audits.{goes_on_at}
use Rattle.carol_audit.proofs.ruling.first_false.Goals as goal

pub loop-index-preserved : goal.loop-index-preserved
loop-index-preserved c =
    goes_on_at c.args.house.now.kept c.args.house.now.scene c.args.events.now c.loop-index.index c.index-events-index.result c.loop-index.house c.enter.new.house
    c.loop-index-test.true c.index-events-index.is c.loop-index.invariant (rw c.if-not-branch.false at c.in_ok-enter.ensures)

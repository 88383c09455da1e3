use Rattle.carol_history.specs.declared.script.Statement.TheVariants.{Go}
use Rattle.carol_report.proofs.Playing.{goes_on_at}
use Rattle.carol_report.proofs.script.first_bad.Goals as goal

pub loop-index-preserved : goal.loop-index-preserved
loop-index-preserved c =
    goes_on_at c.args.house.now c.args.lines.now c.loop-index.index (Go 0) c.loop-index.house c.run_statement.new.house c.in_ok-cause.field-0
    c.loop-index-test.true c.in_default.is c.loop-index.invariant c.in_ok-cause.ensures

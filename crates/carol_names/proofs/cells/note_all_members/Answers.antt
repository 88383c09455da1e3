use Rattle.carol_meaning.specs.Cells.{member_faults}
use Rattle.carol_names.proofs.NameLaws.{faults_more}
use Rattle.carol_names.proofs.cells.note_all_members.Goals as goal

pub loop-declaration-preserved : goal.loop-declaration-preserved
loop-declaration-preserved c =
    faults_more member_faults _ _ c.declaration-item.result _ _ _ c.loop-declaration-test.true c.declaration-item.is c.in_ok-note_members.ensures c.loop-declaration.invariant

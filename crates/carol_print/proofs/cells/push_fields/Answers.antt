use Rattle.carol_print.proofs.Lines.{field_more}
use Rattle.carol_print.proofs.cells.push_fields.Goals as goal

pub loop-field-preserved : goal.loop-field-preserved
loop-field-preserved c =
    field_more _ _ c.field-item.result _ _ _ _ c.loop-field-test.true c.field-item.is c.in_ok-push_text.ensures c.in_ok-push_field.ensures c.loop-field.invariant

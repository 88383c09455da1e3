use Rattle.std.proofs.Common.{◌++◌, FitsSigned, rules, ℤ}
use Rattle.std.specs.Prelude.{codes}
use Rattle.std.specs.Fmt.{signed_decimal}
use Rattle.std.specs.Int.{w64}
use Rattle.std.specs.String.{string_bytes}
use Rattle.std.proofs.lemmas.Int.{to_z-of_z}
use Rattle.carol_event.specs.Texts.{values_text}
use Rattle.carol_event.proofs.Printed.{parts_more}
use Rattle.carol_event.proofs.print.push_values.Goals as goal

pub loop-cell-preserved : goal.loop-cell-preserved
loop-cell-preserved c =
    let fits : FitsSigned w64 c.get-value.result = search rules
    in rw (c.in_ok-write.ensures.bytes, to_z-of_z w64 c.get-value.result fits)
    (parts_more (λ (value : ℤ). codes " " ++ signed_decimal value) (string_bytes c.loop-cell.out) c.args.store.now c.loop-cell.cell c.get-value.result (string_bytes c.args.out.now ++ values_text c.args.store.now) c.get-value.ensures c.loop-cell.invariant)

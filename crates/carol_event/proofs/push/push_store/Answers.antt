use Rattle.std.proofs.Common.{◌≡◌, ◌<◌, ◌++◌, length, get_or, FitsSigned, rules, ℤ, pos, arith}
use Rattle.std.specs.Prelude.{codes}
use Rattle.std.specs.Fmt.{signed_decimal}
use Rattle.std.specs.Int.{w64}
use Rattle.std.proofs.lemmas.Int.{to_z-of_z}
use Rattle.carol_event.specs.Texts.{values_text}
use Rattle.carol_event.proofs.Printed.{front_kept, parts_front}
use Rattle.carol_event.proofs.push.push_store.Goals as goal

pub returns-in_err-push_spaced : goal.returns-in_err-push_spaced
returns-in_err-push_spaced c =
    let h = c.in_err-push_spaced.ensures
    in front_kept c.from_residual.result c.args.out.now.items _ c.loop-value.out.items h.0 (values_text c.args.values.now) c.push_spaced.new.out.items c.from_residual.ensures.0 c.loop-value.invariant h.1

pub loop-value-preserved : goal.loop-value-preserved
loop-value-preserved c =
    let value = get_or c.args.values.now c.loop-value.value-index (pos 0)
    in let fits : FitsSigned w64 value = search rules
    in let inside : c.loop-value.value-index < length c.args.values.now = omega arith
    in let h : c.push_spaced.new.out.items ≡ c.loop-value.out.items ++ (codes " " ++ signed_decimal value) = let said = c.in_ok-push_spaced.ensures in rw (to_z-of_z w64 value fits) at said
    in parts_front (λ (v : ℤ). codes " " ++ signed_decimal v) c.args.out.now.items c.loop-value.out.items c.push_spaced.new.out.items c.args.values.now c.loop-value.value-index (pos 0) inside c.loop-value.invariant h

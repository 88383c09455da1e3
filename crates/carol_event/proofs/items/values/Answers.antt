use Rattle.std.proofs.Common.{◌≡◌, FitsSigned, ◌-◌, ◌<◌, length, rules, arith, ap, refl}
use Rattle.std.proofs.lemmas.Result.{err_from_is_err_and}
use Rattle.std.specs.Int.{w64}
use Rattle.std.proofs.lemmas.Int.{to_z-of_z}
use Rattle.carol_event.specs.Lines.{value_at, items_at}
use Rattle.carol_event.proofs.OneMore.{behind_none, items_bad, items_end, items_full, items_next, items_word}
use Rattle.carol_event.proofs.items.values.Goals as goal

pub loop-left-init : goal.loop-left-init
loop-left-init c = rw c.new-values.ensures (behind_none (items_at value_at 16 c.args.bytes.now), omega arith)

pub returns-in_err-item : goal.returns-in_err-item
returns-in_err-item c =
    let some : 0 < length c.loop-left.left.now = search rules
    in let p = err_from_is_err_and c.from_residual.result c.from_residual.ensures.1
    in rw (p.1, p.2) (items_word value_at (16 - length c.loop-left.values) c.loop-left.values c.loop-left.left.now _ (items_at value_at 16 c.args.bytes.now) some c.in_err-item.ensures.exact c.loop-left.invariant.0)

pub returns-then-as_slice-eq-MOST_CELLS : goal.returns-then-as_slice-eq-MOST_CELLS
returns-then-as_slice-eq-MOST_CELLS c =
    let some : 0 < length c.loop-left.left.now = search rules
    in let full : length c.as_slice.result.now ≡ 16 = search rules
    in let none : 16 - length c.loop-left.values ≡ 0 = omega (arith, ap length c.as_slice.ensures.items)
    in items_full value_at (16 - length c.loop-left.values) c.loop-left.values c.loop-left.left.now c.in_ok-item.item.now (items_at value_at 16 c.args.bytes.now) some none c.in_ok-item.ensures.exact c.loop-left.invariant.0

pub returns-in_err-value : goal.returns-in_err-value
returns-in_err-value c =
    let some : 0 < length c.loop-left.left.now = search rules
    in let apart : length c.as_slice.result.now ≡ 16 → ⊥ = search rules
    in let room : 0 < 16 - length c.loop-left.values = omega (arith, ap length c.as_slice.ensures.items, c.loop-left.invariant.1)
    in let p = err_from_is_err_and c.from_residual-in_err-value.result c.from_residual-in_err-value.ensures.1
    in rw (p.1, p.2) (items_bad value_at (16 - length c.loop-left.values) c.loop-left.values c.loop-left.left.now c.in_ok-item.item.now _ (items_at value_at 16 c.args.bytes.now) some room c.in_ok-item.ensures.exact c.in_err-value.ensures c.loop-left.invariant.0)

pub loop-left-preserved : goal.loop-left-preserved
loop-left-preserved c =
    let some : 0 < length c.loop-left.left.now = search rules
    in let apart : length c.as_slice.result.now ≡ 16 → ⊥ = search rules
    in let room : 0 < 16 - length c.loop-left.values = omega (arith, ap length c.as_slice.ensures.items, c.loop-left.invariant.1)
    in let fits : FitsSigned w64 c.in_ok-value.value = search rules
    in items_next value_at c.loop-left.values c.push.new.self c.loop-left.left.now c.in_ok-item.item.now c.in_ok-value.value c.in_ok-value.rest.now (items_at value_at 16 c.args.bytes.now)
    (rw (c.push.ensures, to_z-of_z w64 c.in_ok-value.value fits) refl) some room c.in_ok-item.ensures.exact c.in_ok-value.ensures c.loop-left.invariant.0

pub returns : goal.returns
returns c =
    let none : length c.loop-left.left.now ≡ 0 = search rules
    in items_end value_at (16 - length c.loop-left.values) c.loop-left.values c.loop-left.left.now (items_at value_at 16 c.args.bytes.now) none c.loop-left.invariant.0

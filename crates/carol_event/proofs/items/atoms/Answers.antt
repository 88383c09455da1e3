use Rattle.std.proofs.Common.{◌≡◌, ◌-◌, ◌<◌, length, rules, arith, ap}
use Rattle.std.proofs.lemmas.Result.{err_from_is_err_and}
use Rattle.carol_event.specs.Lines.{atom_at, items_at}
use Rattle.carol_event.proofs.OneMore.{behind_none, items_bad, items_end, items_full, items_next, items_word}
use Rattle.carol_event.proofs.items.atoms.Goals as goal

pub loop-left-init : goal.loop-left-init
loop-left-init c = rw c.new-atoms.ensures (behind_none (items_at atom_at 16 c.args.bytes.now), omega arith)

pub returns-in_err-item : goal.returns-in_err-item
returns-in_err-item c =
    let some : 0 < length c.loop-left.left.now = search rules
    in let p = err_from_is_err_and c.from_residual.result c.from_residual.ensures.1
    in rw (p.1, p.2) (items_word atom_at (16 - length c.loop-left.atoms) c.loop-left.atoms c.loop-left.left.now _ (items_at atom_at 16 c.args.bytes.now) some c.in_err-item.ensures.exact c.loop-left.invariant.0)

pub returns-then-as_slice-eq-MOST_CELLS : goal.returns-then-as_slice-eq-MOST_CELLS
returns-then-as_slice-eq-MOST_CELLS c =
    let some : 0 < length c.loop-left.left.now = search rules
    in let full : length c.as_slice.result.now ≡ 16 = search rules
    in let none : 16 - length c.loop-left.atoms ≡ 0 = omega (arith, ap length c.as_slice.ensures.items)
    in items_full atom_at (16 - length c.loop-left.atoms) c.loop-left.atoms c.loop-left.left.now c.in_ok-item.item.now (items_at atom_at 16 c.args.bytes.now) some none c.in_ok-item.ensures.exact c.loop-left.invariant.0

pub returns-in_err-atom : goal.returns-in_err-atom
returns-in_err-atom c =
    let some : 0 < length c.loop-left.left.now = search rules
    in let apart : length c.as_slice.result.now ≡ 16 → ⊥ = search rules
    in let room : 0 < 16 - length c.loop-left.atoms = omega (arith, ap length c.as_slice.ensures.items, c.loop-left.invariant.1)
    in let p = err_from_is_err_and c.from_residual-in_err-atom.result c.from_residual-in_err-atom.ensures.1
    in rw (p.1, p.2) (items_bad atom_at (16 - length c.loop-left.atoms) c.loop-left.atoms c.loop-left.left.now c.in_ok-item.item.now _ (items_at atom_at 16 c.args.bytes.now) some room c.in_ok-item.ensures.exact c.in_err-atom.ensures c.loop-left.invariant.0)

pub loop-left-preserved : goal.loop-left-preserved
loop-left-preserved c =
    let some : 0 < length c.loop-left.left.now = search rules
    in let apart : length c.as_slice.result.now ≡ 16 → ⊥ = search rules
    in let room : 0 < 16 - length c.loop-left.atoms = omega (arith, ap length c.as_slice.ensures.items, c.loop-left.invariant.1)
    in items_next atom_at c.loop-left.atoms c.push.new.self c.loop-left.left.now c.in_ok-item.item.now c.in_ok-atom.atom c.in_ok-atom.rest.now (items_at atom_at 16 c.args.bytes.now)
    (c.push.ensures) some room c.in_ok-item.ensures.exact c.in_ok-atom.ensures c.loop-left.invariant.0

pub returns : goal.returns
returns c =
    let none : length c.loop-left.left.now ≡ 0 = search rules
    in items_end atom_at (16 - length c.loop-left.atoms) c.loop-left.atoms c.loop-left.left.now (items_at atom_at 16 c.args.bytes.now) none c.loop-left.invariant.0

use Rattle.std.proofs.Common.{◌≡◌, length, set, ◌∙◌, add-one, rules, arith}
use Rattle.carol_holding.proofs.Rows.{HaveRoom-grown, HaveRoom-more, HaveRoom-refilled, held_by-refilled, held_by-set}
use Rattle.carol_holding.proofs.holding.reserve_all.Goals as goal

pub loop-row-preserved : goal.loop-row-preserved
loop-row-preserved c = record {
  held = held_by-set c.loop-row.row-items c.loop-row.row-index c.reserve.new.self c.row-item.result c.reserve.ensures.held ∙ c.loop-row.invariant.held;
  room = λ h. HaveRoom-grown c.loop-row.row-items c.loop-row.row-index c.reserve.new.self c.row-item.result c.reserve.ensures.room (c.loop-row.invariant.room h);
  taken = rw add-one (HaveRoom-more c.loop-row.row-index c.loop-row.row-items c.reserve.new.self (omega arith) c.loop-row.invariant.taken c.in_ok-reserve.ensures.ok);
}

pub returns-in_err-reserve-clause-held : goal.returns-in_err-reserve-clause-held
returns-in_err-reserve-clause-held c =
    let long : length (set c.loop-row.row-items c.loop-row.row-index c.reserve.new.self) ≡ length c.args.rows.now.items = search rules
    in held_by-refilled c.args.rows.now.len c.args.rows.now.items (set c.loop-row.row-items c.loop-row.row-index c.reserve.new.self) (search rules) long
    (held_by-set c.loop-row.row-items c.loop-row.row-index c.reserve.new.self c.row-item.result c.reserve.ensures.held ∙ c.loop-row.invariant.held)

pub returns-in_err-reserve-clause-room : goal.returns-in_err-reserve-clause-room
returns-in_err-reserve-clause-room c = λ h.
    let long : length (set c.loop-row.row-items c.loop-row.row-index c.reserve.new.self) ≡ length c.args.rows.now.items = search rules
    in HaveRoom-refilled c.args.rows.now.len c.args.rows.now.items (set c.loop-row.row-items c.loop-row.row-index c.reserve.new.self) (search rules) long
    (HaveRoom-grown c.loop-row.row-items c.loop-row.row-index c.reserve.new.self c.row-item.result c.reserve.ensures.room (c.loop-row.invariant.room h))

pub returns-clause-room : goal.returns-clause-room
returns-clause-room c = λ h.
    HaveRoom-refilled c.args.rows.now.len c.args.rows.now.items c.loop-row.row-items (search rules) (search rules) (c.loop-row.invariant.room h)

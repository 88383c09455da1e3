use Rattle.std.proofs.Common.{◌<◌, length, arith, length-take}
use Rattle.carol_program.proofs.Ways.{HasWay-within}
use Rattle.carol_program.proofs.accords.offset.Goals as goal

pub slice_bounds-row_length-end : goal.slice_bounds-row_length-end
slice_bounds-row_length-end c =
    let h : c.args.cell < length c.args.kinds.now = HasWay-within c.args.kinds.now c.args.cell c.args.up c.requires.way in
    grind (arith, length-take)

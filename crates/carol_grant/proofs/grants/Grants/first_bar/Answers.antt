use Rattle.std.proofs.Common.{◌<◌, length}
use Rattle.carol_grant.proofs.Bars.{scan_next, scan_row}
use Rattle.carol_grant.proofs.grants.Grants.first_bar.Goals as goal
use Rattle.carol_grant.proofs.grants.Grants.first_bar.Goals.{then-holder-session+in_default, else-holder-session}

pub loop-holder-preserved : goal.loop-holder-preserved
loop-holder-preserved c =
    let f = c.self.inside
    in let before = rw (← c.self.view_is) at c.loop-holder.invariant
    in let inside : c.loop-holder.holder < length f.rows.items = rw c.deref-row-items.ensures.value at c.loop-holder-test.true
    in elim c.if-holder-session.branch [
      | then-holder-session+in_default w ↦
          let free = rw (c.deref-row-items.ensures.value, ← c.self.view_is) at w.in_default.ensures
          in rw (← c.self.view_is) (scan_next f.accords f.rows.items c.args.effect.now c.args.session c.loop-holder.holder before (λ g _. scan_row f.accords f.rows.items c.args.effect.now c.loop-holder.holder _ inside free g))
      | else-holder-session w ↦
          rw (← c.self.view_is) (scan_next f.accords f.rows.items c.args.effect.now c.args.session c.loop-holder.holder before (λ g apart. absurd (apart w.if-holder-session.false)))
    ]

use Rattle.std.proofs.Common.{◌≡◌, ◌+◌, ◌++◌, take, sym, ap, subst, ◌∙◌, arith}
use Rattle.std.proofs.Math.Seq.{take-add}
use Rattle.std.specs.Io.KnownBytes.{Appends}
use Rattle.std.proofs.KnownBytes.{Appends-trans}
use Rattle.carol_outer.proofs.whole.write_all.Goals as goal

pub loop-at-preserved : goal.loop-at-preserved
loop-at-preserved g c =
    let bytes = c.args.bytes.now in
    let at = c.loop-at.at in
    let n = c.in-Ok.count in
    let joined : take (at + n) bytes ≡ take at bytes ++ take n c.split_at.result.1.now =
    take-add at n bytes ∙ ap (λ l. take at bytes ++ take n l) (sym c.split_at.ensures.back) in
    record {
      within = omega (arith, c.in-Ok.ensures.bound);
      appended = subst (Appends _ _) (sym joined) (Appends-trans _ _ _ _ _ c.loop-at.invariant.appended c.in-Ok.ensures.takes);
      counted = omega arith;
    }

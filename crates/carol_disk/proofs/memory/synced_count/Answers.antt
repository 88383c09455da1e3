use Rattle.std.proofs.Common.{length, reverse, take, [], ◌∷◌, List, sym, ◌∙◌, ap, arith}
use Rattle.std.proofs.lemmas.List.{take_at, take-take}
use Rattle.carol_disk.specs.declared.call.Call.{Call}
use Rattle.carol_disk.specs.Tapes.{synced_part}
use Rattle.carol_disk.proofs.Syncing.{synced_part-last}
use Rattle.carol_disk.proofs.memory.synced_count.Goals as goal

pub loop-call-preserved : goal.loop-call-preserved
loop-call-preserved c =
    let before = c.in-Some.before.now in
    let parts = c.in-Some.ensures.cases in
    let kept = c.loop-call.invariant in
    record {
      front =
          sym (take_at before (c.in-Some.call.now ∷ []) (length before) (omega arith))
          ∙ ap (λ (l : List Call). take (length before) l) (sym parts.0 ∙ kept.front)
          ∙ take-take (length before) (length c.loop-call.left.now) c.args.calls.now (omega (arith, parts.1));
      within = omega (arith, parts.1, kept.within);
      part =
          sym (synced_part-last before c.in-Some.call.now c.in_default-call.not-Synced)
          ∙ ap (λ (l : List Call). synced_part (reverse l)) (sym parts.0)
          ∙ kept.part;
    }

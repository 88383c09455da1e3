use Rattle.std.proofs.Common.{◌≡◌, ◌+◌, List, ℕ, length, take, drop, sym, ◌∙◌, ap, subst, reverse, arith}
use Rattle.std.proofs.lemmas.List.{take_all}
use Rattle.carol_disk.specs.declared.call.Call.{Call}
use Rattle.carol_disk.specs.Tapes.{seen_after}
use Rattle.carol_disk.specs.Windows.{Agrees, overlaid}
use Rattle.carol_disk.proofs.Overlaying.{step_write, step_other, agrees_whole, length-overlaid}
use Rattle.carol_disk.proofs.overlay.read_calls.Goals as goal
use Rattle.carol_disk.proofs.overlay.read_calls.Goals.{in-Wrote, in_default}

pub loop-call-preserved : goal.loop-call-preserved
loop-call-preserved c =
    let i = c.loop-call.call-index in
    let past = seen_after c.args.first.now (reverse (take (i + 1) c.args.calls.now)) in
    elim c.match-call.branch [
      | in-Wrote w ↦
          let bytes = w.in-Wrote.bytes in
          let laid : c.match-call.window ≡ overlaid c.loop-call.window c.args.at w.in-Wrote.place bytes =
          w.window-is ∙ w.overlay-in-Wrote.ensures ∙ ap (λ (l : List ℕ). overlaid c.loop-call.window c.args.at w.in-Wrote.place l) w.as_slice.ensures in
          record {
            wide = ap length laid ∙ length-overlaid c.loop-call.window c.args.at w.in-Wrote.place bytes ∙ c.loop-call.invariant.wide;
            agrees = subst (λ (l : List ℕ). Agrees c.args.at l past) (sym laid)
                (step_write c.args.at c.loop-call.window c.args.first.now c.args.calls.now i c.call-item.result w.in-Wrote.at w.in-Wrote.place bytes
                (omega arith) c.call-item.is w.in-Wrote.is c.requires.placed c.loop-call.invariant.agrees);
          }
      | in_default w ↦
          record {
            wide = ap length w.window-is ∙ c.loop-call.invariant.wide;
            agrees = subst (λ (l : List ℕ). Agrees c.args.at l past) (sym w.window-is)
                (step_other c.args.at c.loop-call.window c.args.first.now c.args.calls.now i c.call-item.result w.in_default.not-Wrote
                (omega arith) c.call-item.is c.loop-call.invariant.agrees);
          }
    ]

pub returns : goal.returns
returns c =
    let kept = c.loop-call.invariant in
    let all : take c.loop-call.call-index c.args.calls.now ≡ c.args.calls.now = take_all _ _ (omega arith) in
    let agrees = subst (λ (l : List Call). Agrees c.args.at c.loop-call.window (seen_after c.args.first.now (reverse l))) all kept.agrees in
    agrees_whole c.args.at c.loop-call.window _ (omega (arith, kept.wide, c.requires.within)) agrees
    ∙ ap (λ (n : ℕ). take n (drop c.args.at (seen_after c.args.first.now (reverse c.args.calls.now)))) kept.wide

use Rattle.std.proofs.Common.{◌≡◌, vec_len}
use Rattle.carol_program.specs.Bodies.{body_of}
use Rattle.carol_resolve.specs.Heads.{with_heads}
use Rattle.carol_resolve.proofs.heads.with_heads.Given as goal

abbrev pub invariant-loop-head : goal.invariant-loop-head
invariant-loop-head l = with_heads l.heads.items (body_of l.step) ≡ with_heads l.fn.heads.items (body_of l.fn.last)

abbrev pub decreases-loop-head : goal.decreases-loop-head
decreases-loop-head l = vec_len l.heads

use Rattle.std.proofs.Common.{◌≡◌, ◌<◌, ◌⊎◌, length, get_or, arith, inl, inr}
use Rattle.std.proofs.lemmas.Bool.Decides.{nat_tests}
use Rattle.carol_text.proofs.Numbers.{integer_unsigned, integer_signed}
use Rattle.carol_text.proofs.read.front_integer.Goals.{then-is_empty-via-then-is_empty, then-is_empty-via-else-is_empty+then-bytes-ne45}
use Rattle.carol_text.proofs.read.front_integer.Goals as goal

pub returns-then-is_empty : goal.returns-then-is_empty
returns-then-is_empty c =
    let plain : (length c.args.bytes.now ≡ 0) ⊎ (get_or c.args.bytes.now 0 0 ≡ 45 → ⊥) = elim c.then-is_empty.branch [
      | then-is_empty-via-then-is_empty w ↦ inl (grind (arith, nat_tests))
      | then-is_empty-via-else-is_empty+then-bytes-ne45 w ↦ inr w.if-bytes-ne45.true
    ] in
    rw (integer_unsigned c.args.deepest c.args.highest c.args.bytes.now plain) c.not_signed.ensures

pub returns : goal.returns
returns c =
    let some : 0 < length c.args.bytes.now = grind (arith, nat_tests) in
    rw (integer_signed c.args.deepest c.args.highest c.args.bytes.now some c.if-bytes-ne45.false, ← c.split_at.ensures.back) c.below_zero.ensures

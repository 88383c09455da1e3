use Rattle.std.proofs.Common.{◌≡◌, ◌+◌, ◌-◌, ◌≤◌, ◌++◌, length, take, refl, arith, rules, length-append, length-take-le}
use Rattle.std.proofs.KnownBytes.{Consumes-trans}
use Rattle.carol_outer.proofs.whole.read_all.Goals as goal

pub returns-then-len-count-clause-given : goal.returns-then-len-count-clause-given
returns-then-len-count-clause-given g c =
    let count = c.in-Ok.count in
    let piece = take count c.read.new.into in
    let part : length piece ≡ count = length-take-le count c.read.new.into c.in-Ok.ensures.bound in
    let whole : length (c.loop-bytes.bytes.items ++ piece) ≡ length c.loop-bytes.bytes.items + length piece = length-append c.loop-bytes.bytes.items piece in
    let len : c.len-in-Ok.result ≡ length c.loop-bytes.bytes.items = search rules in
    let room : count ≤ c.args.limit + 1 - length c.loop-bytes.bytes.items = search rules in (
      c.loop-bytes.bytes.items ++ piece,
      Consumes-trans _ _ _ _ _ c.loop-bytes.invariant.consumed c.in-Ok.ensures.gives.0,
      omega arith,
      (λ _. omega arith, λ _. refl),
      tt,
    )

pub returns-then-is_err-clause-given : goal.returns-then-is_err-clause-given
returns-then-is_err-clause-given g c =
    let count = c.in-Ok.count in
    let piece = take count c.read.new.into in
    let part : length piece ≡ count = length-take-le count c.read.new.into c.in-Ok.ensures.bound in
    let whole : length (c.loop-bytes.bytes.items ++ piece) ≡ length c.loop-bytes.bytes.items + length piece = length-append c.loop-bytes.bytes.items piece in
    let len : c.len-in-Ok.result ≡ length c.loop-bytes.bytes.items = search rules in (
      c.loop-bytes.bytes.items ++ piece,
      Consumes-trans _ _ _ _ _ c.loop-bytes.invariant.consumed c.in-Ok.ensures.gives.0,
      omega arith,
      (λ e. absurd (cc), λ more. absurd (omega arith)),
      tt,
    )

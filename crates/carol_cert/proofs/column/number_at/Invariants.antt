use Rattle.std.proofs.Common.{◌≡◌, length, slice_get}
use Rattle.carol_cert.specs.Numbers.{numbers_of, AreSmall}
use Rattle.carol_cert.proofs.column.number_at.Given as goal

-- `left` numbers are left, and at the place they have what all have
abbrev pub invariant-loop-rest : goal.invariant-loop-rest
invariant-loop-rest l = record {
  counted : l.left ≡ length (numbers_of l.rest);
  small : AreSmall l.rest;
  same : slice_get (numbers_of l.rest) l.at ≡ slice_get (numbers_of l.fn.numbers) l.at;
}

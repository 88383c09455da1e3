use Rattle.std.proofs.Common.{◌≡◌, ◌<◌, true, false, length, get_or, ap, ◌∙◌, arith, inl, inr, Err}
use Rattle.std.specs.Char.{is_ascii_digit}
use Rattle.std.proofs.lemmas.Bool.Decides.{nat_tests}
use Rattle.carol_text.proofs.Numbers.{number_none, number_zero, number_digits}
use Rattle.carol_text.proofs.read.front_number.Goals as goal

pub returns-then-is_empty : goal.returns-then-is_empty
returns-then-is_empty c =
    let nothing : length c.args.bytes.now ≡ 0 = grind (arith, nat_tests) in
    number_none c.args.most c.args.bytes.now (inl nothing) ∙ ap Err nothing

pub returns-then-not-is_ascii_digit : goal.returns-then-not-is_ascii_digit
returns-then-not-is_ascii_digit c =
    let other : is_ascii_digit (get_or c.args.bytes.now 0 0) ≡ false = cc in
    number_none c.args.most c.args.bytes.now (inr other)

pub returns-then-bytes-eq48 : goal.returns-then-bytes-eq48
returns-then-bytes-eq48 c =
    let some : 0 < length c.args.bytes.now = grind (arith, nat_tests) in
    rw c.split_at.ensures.back (number_zero c.args.most c.args.bytes.now some c.if-bytes-eq48.true)

pub returns : goal.returns
returns c =
    let some : 0 < length c.args.bytes.now = grind (arith, nat_tests) in
    let digit : is_ascii_digit (get_or c.args.bytes.now 0 0) ≡ true = cc in
    rw (number_digits c.args.most c.args.bytes.now some digit c.if-bytes-eq48.false) c.digits.ensures

use Rattle.std.proofs.Common.{◌≡◌, true, false, get_or, sym, ◌∙◌, arith}
use Rattle.std.specs.Char.{is_ascii_digit}
use Rattle.carol_text.proofs.Numbers.{digits_over, digits_stop, digits_step, digits_fail}
use Rattle.carol_text.proofs.read.digits.Goals as goal

pub returns-then-not-is_ascii_digit : goal.returns-then-not-is_ascii_digit
returns-then-not-is_ascii_digit c =
    let other : is_ascii_digit (get_or c.args.bytes.now c.loop-at.at 0) ≡ false = cc in
    rw c.split_at.ensures.back (sym c.loop-at.invariant ∙ digits_stop c.args.most c.loop-at.value c.args.bytes.now c.loop-at.at c.loop-at-test.true other)

pub returns-in-None : goal.returns-in-None
returns-in-None c =
    let digit : is_ascii_digit (get_or c.args.bytes.now c.loop-at.at 0) ≡ true = cc in
    rw c.split_at.ensures.back (sym c.loop-at.invariant ∙ digits_fail c.args.most c.loop-at.value c.args.bytes.now c.loop-at.at c.loop-at-test.true digit c.in-None.ensures)

pub loop-at-preserved : goal.loop-at-preserved
loop-at-preserved c =
    let digit : is_ascii_digit (get_or c.args.bytes.now c.loop-at.at 0) ≡ true = cc in
    rw c.in-Some.ensures.1 (sym (digits_step c.args.most c.loop-at.value c.args.bytes.now c.loop-at.at c.loop-at-test.true digit c.in-Some.ensures.0) ∙ c.loop-at.invariant)

pub returns : goal.returns
returns c = sym c.loop-at.invariant ∙ digits_over c.args.most c.loop-at.value c.args.bytes.now c.loop-at.at (omega arith)

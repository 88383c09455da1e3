use Rattle.std.proofs.Common.{◌≡◌, length, refl, sym, ◌∙◌, arith}
use Rattle.carol_text.proofs.Words.{word_goes_on, word_differs, word_ends, word_is_read}
use Rattle.carol_text.proofs.read.after_word.Goals as goal

pub returns-then-at-bytes : goal.returns-then-at-bytes
returns-then-at-bytes c =
    sym c.loop-at.invariant.rest ∙ word_ends c.args.word.now c.args.bytes.now c.loop-at.at c.loop-at-test.true c.if-at-bytes.true

pub returns-then-bytes-at : goal.returns-then-bytes-at
returns-then-bytes-at c =
    sym c.loop-at.invariant.rest ∙ word_differs c.args.word.now c.args.bytes.now c.loop-at.at c.loop-at-test.true (omega arith) c.if-bytes-at.true

pub loop-at-preserved : goal.loop-at-preserved
loop-at-preserved c = record {
  within = omega arith;
  rest = sym (word_goes_on c.args.word.now c.args.bytes.now c.loop-at.at c.loop-at-test.true (omega arith) c.if-bytes-at.false) ∙ c.loop-at.invariant.rest;
}

pub returns : goal.returns
returns c =
    let all : c.loop-at.at ≡ length c.args.word.now = omega arith in
    sym c.loop-at.invariant.rest ∙ word_is_read c.args.word.now c.args.bytes.now c.loop-at.at (omega arith) ∙ rw (all, c.split_at.ensures.back) refl

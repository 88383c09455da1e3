use Rattle.std.proofs.Common.{◌≡◌, ◌-◌, suc, true, false, ◌∷◌, [], sym, ◌∙◌, ap, subst, arith, ◌⊎◌, inl, inr}
use Rattle.carol_grammar.specs.Reading.{next_in, reads_within}
use Rattle.carol_syntax.specs.declared.kind.Kind.TheVariants as k
use Rattle.carol_grammar.specs.Terminals.{class_of, number_of}
use Rattle.carol_grammar.specs.Rules as rules
use Rattle.carol_grammar.specs.Rules.{carol}
use Rattle.carol_reader.specs.Reads.{Reads, read_by}
use Rattle.carol_parse.specs.Ends.{end_tree}
use Rattle.carol_parse.proofs.Endings.{ending_above, ending_plain}
use Rattle.carol_parse.proofs.bodies.+bodies.Goals as goal
use Rattle.carol_parse.proofs.bodies.+bodies.Goals.{ending-else-reader-gt0-via-then-reader-gt0+else-next_is, ending-else-reader-gt0-via-else-reader-gt0}

pub ending-returns-then-next_is : goal.ending-returns-then-next_is
ending-returns-then-next_is t c =
    let e : next_in class_of (number_of k.If ∷ []) c.args.tokens.now ≡ true = cc in
    let d : c.args.reader.now.depth ≡ suc (c.args.reader.now.depth - 1) = omega arith in
    let above = ending_above c.args.reader.now.bytes.now c.args.reader.now.count c.args.reader.now.depth (c.args.reader.now.depth - 1) c.args.tokens.now d e in
    let same : read_by c.below.result (rules.choice c.below.result.bytes.now) c.args.tokens.now ≡ reads_within (carol c.args.reader.now.bytes.now) c.args.reader.now.count (c.args.reader.now.depth - 1) (rules.choice c.args.reader.now.bytes.now) c.args.tokens.now =
    ap (λ b. reads_within (carol b) c.below.result.count c.below.result.depth (rules.choice b) c.args.tokens.now) c.below.ensures.bytes
    ∙ ap (λ n. reads_within (carol c.args.reader.now.bytes.now) n c.below.result.depth (rules.choice c.args.reader.now.bytes.now) c.args.tokens.now) c.below.ensures.count
    ∙ ap (λ n. reads_within (carol c.args.reader.now.bytes.now) c.args.reader.now.count n (rules.choice c.args.reader.now.bytes.now) c.args.tokens.now) c.below.ensures.depth in
    subst (Reads end_tree c.choice.result) (same ∙ sym above) c.choice.ensures

pub ending-returns : goal.ending-returns
ending-returns t c = subst (Reads end_tree c.answer.result) (sym (ending_plain c.args.reader.now.bytes.now c.args.reader.now.count c.args.reader.now.depth c.args.tokens.now why)) c.answer.ensures
  where
    why : (c.args.reader.now.depth ≡ 0) ⊎ (next_in class_of (number_of k.If ∷ []) c.args.tokens.now ≡ false)
    why = elim c.else-reader-gt0.branch [ ending-else-reader-gt0-via-then-reader-gt0+else-next_is w ↦ inr cc | ending-else-reader-gt0-via-else-reader-gt0 w ↦ inl (omega arith) ]

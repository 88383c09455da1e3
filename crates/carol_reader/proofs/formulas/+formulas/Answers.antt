use Rattle.std.proofs.Common.{◌≡◌, ◌-◌, suc, true, false, ◌∷◌, [], sym, ◌∙◌, ap, subst, arith, ◌⊎◌, inl, inr}
use Rattle.carol_grammar.specs.Rule.Rule.{deeper}
use Rattle.carol_grammar.specs.Reading.{next_in, reads_within}
use Rattle.carol_syntax.specs.Formulas.{formula_tree, And, Or}
use Rattle.carol_syntax.specs.declared.kind.Kind.TheVariants as k
use Rattle.carol_grammar.specs.Terminals.{class_of, number_of}
use Rattle.carol_grammar.specs.Rules as rules
use Rattle.carol_grammar.specs.Rules.{carol}
use Rattle.carol_reader.specs.Reads.{Reads, read_by}
use Rattle.carol_reader.proofs.Folding.{fold_on}
use Rattle.carol_reader.proofs.Literals.{literal_above, literal_plain}
use Rattle.carol_reader.proofs.formulas.+formulas.Goals as goal
use Rattle.carol_reader.proofs.formulas.+formulas.Goals.{literal-else-reader-gt0-via-then-reader-gt0+else-next_among, literal-else-reader-gt0-via-else-reader-gt0}

pub conjunction-loop-preserved : goal.conjunction-loop-preserved
conjunction-loop-preserved t c =
    let e : next_in class_of (number_of k.And ∷ []) c.loop.rest.now ≡ true = cc in
    let one = fold_on And c.args.reader.now.count c.loop.counter (next_in class_of (number_of k.And ∷ [])) (read_by c.args.reader.now (rules.behind_word k.And (deeper rules.literal))) (formula_tree c.loop.whole) c.loop.rest.now (formula_tree c.in_ok-right.right) c.in_ok-right.more.now c.loop-test.true e c.in_ok-right.ensures in
    rw c.in_ok-whole.ensures (sym one ∙ c.loop.invariant)

pub formula-loop-preserved : goal.formula-loop-preserved
formula-loop-preserved t c =
    let e : next_in class_of (number_of k.Or ∷ []) c.loop.rest.now ≡ true = cc in
    let one = fold_on Or c.args.reader.now.count c.loop.counter (next_in class_of (number_of k.Or ∷ [])) (read_by c.args.reader.now (rules.behind_word k.Or rules.conjunction)) (formula_tree c.loop.whole) c.loop.rest.now (formula_tree c.in_ok-right.right) c.in_ok-right.more.now c.loop-test.true e c.in_ok-right.ensures in
    rw c.in_ok-whole.ensures (sym one ∙ c.loop.invariant)

pub literal-returns-then-next_among : goal.literal-returns-then-next_among
literal-returns-then-next_among t c =
    let e : next_in class_of (number_of k.Not ∷ number_of k.Opening ∷ []) c.args.tokens.now ≡ true = cc in
    let d : c.args.reader.now.depth ≡ suc (c.args.reader.now.depth - 1) = omega arith in
    let above = literal_above c.args.reader.now.bytes.now c.args.reader.now.count c.args.reader.now.depth (c.args.reader.now.depth - 1) c.args.tokens.now d e in
    let same : read_by c.below.result rules.nested_literal c.args.tokens.now ≡ reads_within (carol c.args.reader.now.bytes.now) c.args.reader.now.count (c.args.reader.now.depth - 1) rules.nested_literal c.args.tokens.now =
    ap (λ b. reads_within (carol b) c.below.result.count c.below.result.depth rules.nested_literal c.args.tokens.now) c.below.ensures.bytes
    ∙ ap (λ n. reads_within (carol c.args.reader.now.bytes.now) n c.below.result.depth rules.nested_literal c.args.tokens.now) c.below.ensures.count
    ∙ ap (λ n. reads_within (carol c.args.reader.now.bytes.now) c.args.reader.now.count n rules.nested_literal c.args.tokens.now) c.below.ensures.depth in
    subst (Reads formula_tree c.nested_literal.result) (same ∙ sym above) c.nested_literal.ensures

pub literal-returns : goal.literal-returns
literal-returns t c = subst (Reads formula_tree c.atom_literal.result) (sym (literal_plain c.args.reader.now.bytes.now c.args.reader.now.count c.args.reader.now.depth c.args.tokens.now why)) c.atom_literal.ensures
  where
    why : (c.args.reader.now.depth ≡ 0) ⊎ (next_in class_of (number_of k.Not ∷ number_of k.Opening ∷ []) c.args.tokens.now ≡ false)
    why = elim c.else-reader-gt0.branch [ literal-else-reader-gt0-via-then-reader-gt0+else-next_among w ↦ inr cc | literal-else-reader-gt0-via-else-reader-gt0 w ↦ inl (omega arith) ]

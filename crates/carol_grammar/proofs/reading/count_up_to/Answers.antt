use Rattle.std.proofs.Common.{List, subst, sym}
use Rattle.carol_syntax.specs.declared.lexeme.Lexeme.{Lexeme}
use Rattle.carol_syntax.specs.Cut.{StandBetween}
use Rattle.carol_grammar.specs.Reach.{IsSplit}
use Rattle.carol_grammar.proofs.FirstMet.{begin_behind_at, begin_by_more}
use Rattle.carol_grammar.proofs.reading.count_up_to.Goals as goal

pub loop-index-preserved : goal.loop-index-preserved
loop-index-preserved c = begin_by_more c.args.at c.as_slice-tokens.result.now c.loop-index.index _ c.loop-index.invariant c.if-token-at.false

pub returns-then-token-at-clause-split : goal.returns-then-token-at-clause-split
returns-then-token-at-clause-split c =
    let tokens = c.as_slice-tokens.result.now in
    let stand : StandBetween 0 tokens c.args.text.now.end.offset = subst (λ (z : List Lexeme). StandBetween 0 z c.args.text.now.end.offset) (sym c.as_slice-tokens.ensures) c.requires in
    let split : IsSplit c.args.at tokens c.loop-index.index = record {
      up_to = c.loop-index.invariant;
      beyond = begin_behind_at c.args.at 0 tokens c.args.text.now.end.offset c.loop-index.index _ stand c.if-token-at.true c.loop-index-test.true;
    } in
    subst (λ (z : List Lexeme). IsSplit c.args.at z c.loop-index.index) c.as_slice-tokens.ensures split

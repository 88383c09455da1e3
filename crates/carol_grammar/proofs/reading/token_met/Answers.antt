use Rattle.std.proofs.Common.{List, reverse, subst, sym}
use Rattle.carol_syntax.specs.declared.lexeme.Lexeme.{Lexeme}
use Rattle.carol_syntax.specs.Cut.{StandBetween}
use Rattle.carol_grammar.specs.Reach.{NoneIsOver, IsFirstMet}
use Rattle.carol_grammar.proofs.FirstMet.{none_passes, met_over}
use Rattle.carol_grammar.proofs.reading.token_met.Goals as goal

pub returns-in_default : goal.returns-in_default
returns-in_default c = none_passes c.args.text.now.list (subst (λ (z : List Lexeme). NoneIsOver (reverse z)) c.as_slice-tokens.ensures c.in_default.ensures)

pub returns : goal.returns
returns c = subst (λ (z : List Lexeme). IsFirstMet z c.met_at.result) c.as_slice-tokens.ensures (met_over c.as_slice-tokens.result.now c.in-Some.passed c.met_at.result c.args.text.now.end.offset (subst (λ (z : List Lexeme). StandBetween 0 z c.args.text.now.end.offset) (sym c.as_slice-tokens.ensures) c.requires) c.in-Some.ensures c.met_at.ensures.limit c.met_at.ensures.at)

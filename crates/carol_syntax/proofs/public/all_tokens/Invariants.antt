use Rattle.std.proofs.Common.{◌≡◌, map, take}
use Rattle.carol_syntax.specs.Tokens.{token_of}
use Rattle.carol_syntax.proofs.public.all_tokens.Given as goal

abbrev pub invariant-loop-lexeme : goal.invariant-loop-lexeme
invariant-loop-lexeme l = l.list ≡ map token_of (take l.lexeme-index l.lexemes)

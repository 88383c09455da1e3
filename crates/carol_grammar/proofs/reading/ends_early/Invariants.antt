use Rattle.std.proofs.Common.{◌≡◌, drop}
use Rattle.carol_grammar.specs.Limits.{ends_within}
use Rattle.carol_grammar.proofs.reading.ends_early.Given as goal

abbrev pub invariant-loop-token : goal.invariant-loop-token
invariant-loop-token l = ends_within (drop l.token-index l.tokens) ≡ ends_within l.tokens

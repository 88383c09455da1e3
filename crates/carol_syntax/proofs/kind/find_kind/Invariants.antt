use Rattle.std.proofs.Common.{◌≡◌, drop, map}
use Rattle.carol_syntax.specs.Keywords.{kind_in, entry_of}
use Rattle.carol_syntax.proofs.kind.find_kind.Given as goal

abbrev pub invariant-loop-keyword : goal.invariant-loop-keyword
invariant-loop-keyword l = kind_in (map entry_of (drop l.keyword-index l.keywords)) l.word ≡ kind_in (map entry_of l.fn.keywords) l.word

use Rattle.std.proofs.Common.{◌∙◌, ap}
use Rattle.carol_syntax.specs.Keywords.{kind_in, keyword_kinds}
use Rattle.carol_syntax.proofs.Lengths.{only_length}
use Rattle.carol_syntax.proofs.kind.word_kind.Goals as goal

pub returns : goal.returns
returns c = c.find_kind.ensures ∙ ap (λ entries. kind_in entries c.args.word.now) c.keywords.ensures ∙ only_length keyword_kinds c.args.word.now

use Rattle.carol_grammar.specs.Outcome.{tail_of}
use Rattle.carol_parse.proofs.Spelled.{all_spelled}
use Rattle.carol_parse.proofs.Files.{file_shaped}
use Rattle.carol_parse.proofs.shape.text_is_shaped.Goals as goal

pub returns : goal.returns
returns c bytes f (parts, cut, text) =
    file_shaped bytes (tail_of parts.stop) parts.list f (all_spelled bytes parts.list parts.stop parts.end cut) text.file

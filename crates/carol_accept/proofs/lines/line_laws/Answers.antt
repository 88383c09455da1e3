use Rattle.carol_accept.proofs.Telling.{lines_tell, trails_are_ways}
use Rattle.carol_accept.proofs.lines.line_laws.Goals as goal

pub returns : goal.returns
returns c = record { trails = trails_are_ways; tell = lines_tell }

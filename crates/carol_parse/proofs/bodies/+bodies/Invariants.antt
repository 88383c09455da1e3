use Rattle.std.proofs.Common.{◌+◌, ◌*◌}
use Rattle.carol_parse.proofs.bodies.+bodies.Given as goal

abbrev pub decreases-ending : goal.decreases-ending
decreases-ending l = 3 * l.reader.now.depth

abbrev pub decreases-body : goal.decreases-body
decreases-body l = 3 * l.reader.now.depth + 1

abbrev pub decreases-choice : goal.decreases-choice
decreases-choice l = 3 * l.reader.now.depth + 2

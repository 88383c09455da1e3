use Rattle.carol_program.specs.Rules.{rules_in}
use Rattle.carol_obligation.proofs.Light.{nameable_round}
use Rattle.carol_obligation.proofs.known.with_round.Goals as goal

pub renamed-requires : goal.renamed-requires
renamed-requires c = nameable_round (rules_in c.args.program.now) c.args.round c.requires.rules c.requires.round

use Rattle.std.proofs.Common.{rules}
use Rattle.carol_formula.specs.Tree.{claim_of}
use Rattle.carol_program.specs.Rules.{rules_in}
use Rattle.carol_obligation.proofs.Light.{nameable_after}
use Rattle.carol_obligation.proofs.Loops.{after_owed}
use Rattle.carol_obligation.proofs.owed.invariant_owed.Goals as goal

pub renamed-requires : goal.renamed-requires
renamed-requires c = nameable_after (rules_in c.args.program.now) c.kinds-kinds.result.now c.args.parts.now c.args.round c.requires.rules c.requires.round c.requires.parts

pub returns : goal.returns
returns c = λ op. after_owed (rules_in c.args.program.now) op c.args.round c.args.parts.now c.kinds-kinds.result.now (claim_of c.args.known.now) c.kinds-kinds.ensures.kinds (claim_of c.in_ok-owed.owed) (search rules)

use Rattle.std.proofs.Common.{◌<◌}
use Rattle.carol_formula.specs.Tree.{claim_of}
use Rattle.carol_program.specs.Variables.{guard_variables}
use Rattle.carol_accord.specs.Formed.{step_name}
use Rattle.carol_accord.proofs.Light.{nameable, step_named}
use Rattle.carol_accord.proofs.formulas.step_formula.Goals as goal

pub renamed-requires : goal.renamed-requires
renamed-requires c = nameable (λ v. c.args.direction.cell < 16) (step_name c.args.kind c.args.direction) (guard_variables c.args.kinds.now) (step_named c.args.kind c.args.direction c.requires.cell) (claim_of c.args.guard.now) c.requires.guard.over.terms

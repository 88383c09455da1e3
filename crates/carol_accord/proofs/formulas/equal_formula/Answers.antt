use Rattle.std.specs.Prelude.{⊤}
use Rattle.carol_formula.specs.Tree.{claim_of}
use Rattle.carol_program.specs.Variables.{guard_variables}
use Rattle.carol_accord.specs.Formed.{equal_name}
use Rattle.carol_accord.proofs.Light.{nameable, equal_named}
use Rattle.carol_accord.proofs.formulas.equal_formula.Goals as goal

pub renamed-requires : goal.renamed-requires
renamed-requires c = nameable (λ v. ⊤) equal_name (guard_variables c.args.kinds.now) equal_named (claim_of c.args.guard.now) c.requires.over.terms

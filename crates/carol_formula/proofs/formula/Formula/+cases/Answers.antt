use Rattle.std.proofs.Common.{rules}
use Rattle.carol_formula.specs.Tree.{claim_of}
use Rattle.carol_formula.specs.declared.formula.Formula.{the_lemmas}
use Rattle.carol_formula.proofs.Claims.{capped_and}
use Rattle.carol_formula.proofs.formula.Formula.+cases.Goals as goal

pub returns-in-And : goal.returns-in-And
returns-in-And t c = capped_and c.product.result c.cases.result c.cases-in-And.result 1000001 (claim_of c.get.result.now) (claim_of c.get-in-And.result.now) (claim_of c.args.self.now) (search (rules, the_lemmas)) c.cases.ensures c.cases-in-And.ensures c.product.ensures

use Rattle.std.proofs.lemmas.Result.{IfOk-weaker}
use Rattle.carol_resolve.proofs.Scopes.{size-worth-bounded}
use Rattle.carol_resolve.proofs.place.size.Goals as goal

pub returns-clause-bounded : goal.returns-clause-bounded
returns-clause-bounded c = IfOk-weaker c.size_value.result _ _ (size-worth-bounded c.args.cells.now c.args.value.now c.in-Some.rest.now c.look-meaning.result) c.size_value.ensures.worth

use Rattle.std.proofs.lemmas.Result.{IfOk-weaker}
use Rattle.carol_resolve.proofs.Scopes.{plain-worth-bounded}
use Rattle.carol_resolve.proofs.place.plain.Goals as goal

pub returns-clause-bounded : goal.returns-clause-bounded
returns-clause-bounded c =
    IfOk-weaker c.plain_value.result _ _ (plain-worth-bounded c.args.cells.now c.args.value.now c.in-Some.rest.now c.look-meaning.result c.look-meaning.ensures.safe) c.plain_value.ensures.worth

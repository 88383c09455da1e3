use Rattle.carol_store.proofs.Bounds.{adds_little}
use Rattle.carol_store.proofs.Orders.{commutes, order_is_free}
use Rattle.carol_store.proofs.Steps.{steps_reach}
use Rattle.carol_store.proofs.laws.store_laws.Goals as goal

pub returns-clause-two : goal.returns-clause-two
returns-clause-two c = commutes

pub returns-clause-all : goal.returns-clause-all
returns-clause-all c = order_is_free

pub returns-clause-little : goal.returns-clause-little
returns-clause-little c = adds_little

pub returns-clause-steps : goal.returns-clause-steps
returns-clause-steps c = steps_reach

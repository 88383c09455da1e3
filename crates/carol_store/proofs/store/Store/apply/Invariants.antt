use Rattle.std.proofs.Common.{drop}
use Rattle.carol_store.proofs.Atoms.{Leads}
use Rattle.carol_store.proofs.store.Store.apply.Given as goal

abbrev pub invariant-loop-atom : goal.invariant-loop-atom
invariant-loop-atom l = Leads l.shape l.effect l.fn.self (drop l.atom-index l.effect) l.self

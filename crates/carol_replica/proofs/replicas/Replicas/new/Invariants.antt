use Rattle.std.proofs.Common.{◌≡◌, replicate}
use Rattle.carol_replica.proofs.replicas.Replicas.new.Given as goal

abbrev pub invariant-loop : goal.invariant-loop
invariant-loop l = l.locals.items ≡ replicate l.counter l.initial'

use Rattle.carol_worker.specs.Serving.{Went}
use Rattle.carol_worker.proofs.serving.serve.Given as goal

abbrev pub invariant-loop : goal.invariant-loop
invariant-loop g l =
    Went (g.D.Desk.tally l.initial.desk) l.session l.counter (g.D.Desk.tally l.desk)
    × g.D.Desk.only l.initial.desk l.session l.desk

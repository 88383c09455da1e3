use Rattle.std.proofs.Common.{ℕ, Option, Vec, Global, subst}
use Rattle.std.specs.Option.{IfSome}
use Rattle.carol_difference.specs.Edges.{IsNegativeCycle}
use Rattle.carol_difference.proofs.Walks.{cycle_refutes}
use Rattle.carol_difference.proofs.paths.potentials_or_cycle.Goals as goal

pub loop-forest-init : goal.loop-forest-init
loop-forest-init c = record {
  forest = c.in_ok-forest.ensures.forest c.args.edges.now;
  shallow = c.in_ok-forest.ensures.shallow;
}

pub returns-in-Deep : goal.returns-in-Deep
returns-in-Deep c =
    (c.in_ok-deep_cycle-in-Deep.ensures, cycle_refutes c.args.nodes c.args.edges.now c.in_ok-deep_cycle-in-Deep.field-0.items c.in_ok-deep_cycle-in-Deep.ensures)

pub returns-in-Some : goal.returns-in-Some
returns-in-Some c =
    let cycle = subst (λ (o : Option (Vec ℕ Global)). IfSome o (λ v. IsNegativeCycle c.args.nodes c.args.edges.now v.items)) c.in-Some.is c.in_ok-numbers-in-Lowered.ensures.cycle in
    (cycle, cycle_refutes c.args.nodes c.args.edges.now c.in-Some.numbers.items cycle)

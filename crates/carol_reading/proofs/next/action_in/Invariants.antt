use Rattle.carol_program.specs.declared.steps.Step.{size-Step}
use Rattle.carol_program.specs.Bodies.{body_of}
use Rattle.carol_program.specs.Variables.{number_of_args}
use Rattle.carol_reading.specs.Nexts.{next_of}
use Rattle.carol_reading.proofs.Going.{Goes}
use Rattle.carol_reading.proofs.next.action_in.Given as goal

abbrev pub invariant-loop-step : goal.invariant-loop-step
invariant-loop-step l = Goes l.fn.shape (number_of_args l.fn.args) l.stores (next_of l.fn.shape (body_of l.fn.body) (number_of_args l.fn.args) l.fn.seen.stores l.fn.seen.done) (body_of l.step) l.left l.slots

abbrev pub decreases-loop-step : goal.decreases-loop-step
decreases-loop-step l = size-Step l.step

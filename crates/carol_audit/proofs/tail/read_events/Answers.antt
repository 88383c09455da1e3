use Rattle.std.proofs.Common.{◌≡◌, length, arith}
use Rattle.std.proofs.lemmas.Result.{err_from_is_err_and}
use Rattle.carol_audit.proofs.Fronts.{free_fault, front_short, many_not_read, read_to}
use Rattle.carol_audit.proofs.tail.read_events.Goals as goal

pub overflow_add-line : goal.overflow_add-line
overflow_add-line c = omega (arith, front_short c.args.tail.now c.loop-events.events.items c.loop-events.left.now c.loop-events.invariant)

pub returns-in_err-first_event-clause-only : goal.returns-in_err-first_event-clause-only
returns-in_err-first_event-clause-only c = λ events read.
    let p = err_from_is_err_and c.from_residual.result c.from_residual.ensures.1
    in let long : c.len.result ≡ length c.loop-events.events.items = omega (arith, c.len.ensures)
    in rw (p.1, p.2) (free_fault c.args.tail.now c.args.line c.loop-events.events.items events c.loop-events.left.now c.in_err-first_event.field-0.0 c.loop-events.invariant
    (rw long at c.in_err-first_event.ensures) read)

pub returns-in-None-clause-only : goal.returns-in-None-clause-only
returns-in-None-clause-only c = λ events read.
    read_to c.args.tail.now c.loop-events.events.items events c.loop-events.left.now c.loop-events.invariant (rw c.in-None.is at c.in_ok-first_event.ensures) read

pub returns-then-len-eq-MOST_EVENTS-clause-only : goal.returns-then-len-eq-MOST_EVENTS-clause-only
returns-then-len-eq-MOST_EVENTS-clause-only c = λ events read.
    let found = rw c.in-Some.is at c.in_ok-first_event.ensures
    in let full : length c.loop-events.events.items ≡ 131072 = omega (arith, c.len-in-Some.ensures, c.if-len-eq-MOST_EVENTS.true)
    in absurd (many_not_read c.args.tail.now c.loop-events.events.items events c.loop-events.left.now c.in-Some.taken.event _ c.loop-events.invariant full found.0 read)

use Rattle.carol_event.proofs.Near.{bad_near}
use Rattle.carol_event.proofs.Places.{bad_place}
use Rattle.carol_event.proofs.RoundTrip.{event_take, no_event, same_event}
use Rattle.carol_event.proofs.parse.parse_event.Goals as goal

pub column-requires-clause-within : goal.column-requires-clause-within
column-requires-clause-within c = (bad_near c.args.line.now c.in-Err.bad.left c.in-Err.ensures).0

pub column-requires-clause-near : goal.column-requires-clause-near
column-requires-clause-near c = (bad_near c.args.line.now c.in-Err.bad.left c.in-Err.ensures).1

pub returns-in-Ok-clause-found : goal.returns-in-Ok-clause-found
returns-in-Ok-clause-found c = (event_take c.args.line.now c.in-Ok.event c.in-Ok.ensures).1

pub returns-in-Ok-clause-numbers : goal.returns-in-Ok-clause-numbers
returns-in-Ok-clause-numbers c = (event_take c.args.line.now c.in-Ok.event c.in-Ok.ensures).0

pub returns-in-Ok-clause-only : goal.returns-in-Ok-clause-only
returns-in-Ok-clause-only c = λ event fits is. same_event c.args.line.now c.in-Ok.event event fits is c.in-Ok.ensures

pub returns-in-Err-clause-only : goal.returns-in-Err-clause-only
returns-in-Err-clause-only c = λ event fits is. no_event c.args.line.now c.in-Err.bad.left event fits is c.in-Err.ensures

pub returns-in-Err-clause-bad : goal.returns-in-Err-clause-bad
returns-in-Err-clause-bad c = bad_place c.args.line.now c.in-Err.bad.left c.column.result c.in-Err.ensures c.column.ensures

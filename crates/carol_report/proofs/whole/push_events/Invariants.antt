use Rattle.std.proofs.Common.{◌≡◌, ◌++◌, drop}
use Rattle.std.specs.Prelude.{flat_map}
use Rattle.carol_event.specs.Texts.{event_line}
use Rattle.carol_report.proofs.whole.push_events.Given as goal

abbrev pub invariant-loop-event : goal.invariant-loop-event
invariant-loop-event l = l.out.items ++ flat_map event_line (drop l.event-index l.events) ≡ l.fn.out.items ++ flat_map event_line l.events

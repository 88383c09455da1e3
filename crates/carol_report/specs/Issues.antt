-- Which events make entries of the journal.
use Rattle.std.specs.Prelude.{Bool, true, false}
use Rattle.carol_event.specs.declared.event.Event.{Event}
use Rattle.carol_event.specs.declared.event.Event.TheVariants.{Issue}

abbrev pub is_issue : Event → Bool
is_issue (Issue session entry effect) = true
is_issue event = false

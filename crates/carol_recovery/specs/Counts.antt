-- How much of a history is read back.
use Rattle.std.specs.Prelude.{ℕ, ◌-◌, ◌/◌, min, List, drop, length}
use Rattle.carol_event.specs.declared.event.Event.{Event}

-- how many of so many events are read back from a disk that stopped at the call with this number,
-- from 0: opening a vault takes the first five calls, and keeping an event the next four
abbrev pub events_kept : ℕ → ℕ → ℕ
events_kept stop events = min events ((stop - 5) / 4)

-- the history of the first events that are read back, the latest event first
abbrev pub history_kept : ℕ → List Event → List Event
history_kept stop past = drop (length past - events_kept stop (length past)) past

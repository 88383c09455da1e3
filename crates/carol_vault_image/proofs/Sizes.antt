-- How long records are.
use Rattle.std.proofs.Common.{◌≡◌, ◌+◌, ◌≤◌, [], ◌∷◌, length, arith, length-append}
use Rattle.carol_event.specs.declared.event.Event.{Event}
use Rattle.carol_event.specs.Numbers.{HasNumbers}
use Rattle.carol_event.specs.Texts.{event_line, event_text}
use Rattle.carol_event.proofs.Near.{event_short}
use Rattle.carol_event.proofs.RoundTrip.{event_again}
use Rattle.carol_vault_image.specs.Records.{record_of}

pub short_line : (event : Event) → HasNumbers event → length (event_line event) ≤ 909
short_line event fits =
    omega (arith, event_short (event_text event) event (event_again event fits), length-append (event_text event) (10 ∷ []))

pub some_line : (event : Event) → 1 ≤ length (event_line event)
some_line event = omega (arith, length-append (event_text event) (10 ∷ []))

pub length-record_of : (event : Event) → length (record_of event) ≡ length (event_line event) + 3
length-record_of event = omega arith

use Rattle.std.proofs.Common.{◌≡◌, ℕ, List, [], ◌∷◌, ◌++◌}
use Rattle.carol_event.specs.declared.event.Event.{Event}
use Rattle.carol_event.specs.Texts.{event_line, event_text}
use Rattle.carol_vault_image.proofs.record.line_event.Goals as goal

whole : (line text : List ℕ) (last : ℕ) (event : Event) → line ≡ text ++ last ∷ [] → last ≡ 10 → text ≡ event_text event → line ≡ event_line event
whole line text last event are feed is = cc

pub returns-in-Ok-clause-event : goal.returns-in-Ok-clause-event
returns-in-Ok-clause-event c = (
  c.in-Ok.ensures.numbers,
  whole c.args.line.now c.in_ok-last.text.now c.in_ok-last.last.now c.in-Ok.event c.in_ok-last.ensures.cases.0 c.if-last-ne10.false c.in-Ok.ensures.found,
)

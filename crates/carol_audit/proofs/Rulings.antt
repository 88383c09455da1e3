-- What a ruling and the lines behind the events say of a tail.
use Rattle.std.proofs.Common.{◌≡◌, ℕ, List, ◌++◌, length, arith}
use Rattle.std.specs.Prelude.{Result, Ok, Err, IfOk, reverse}
use Rattle.std.proofs.lemmas.List.{length-reverse}
use Rattle.carol_program.specs.Rules.{rules_in}
use Rattle.carol_program.specs.declared.scenes.Scene.{Scene}
use Rattle.carol_reading.specs.Kept.{Kept}
use Rattle.carol_event.specs.declared.event.Event.{Event}
use Rattle.carol_house.specs.House.{House}
use Rattle.carol_report.specs.Report.{report_text}
use Rattle.carol_audit.specs.declared.ruling.Ruling.{Ruling}
use Rattle.carol_audit.specs.declared.ruling.Ruling.TheVariants as ruling
use Rattle.carol_audit.specs.Rulings.{IsGenuine, Tells}
use Rattle.carol_audit.specs.Lines.{IsFirstFalseLine}
use Rattle.carol_audit.specs.Tails.{HasEvents}
use Rattle.carol_audit.specs.declared.finding.Finding.{Finding}
use Rattle.carol_audit.specs.declared.finding.Finding.TheVariants.{Genuine, FalseEvent, FalseLine}
use Rattle.carol_audit.specs.Findings.{ComesTo, Finds, transcript_line}

-- the house's report is that of the events
report_of : (kept : Kept) (scene : Scene) (events : List Event) (house : House) (P : List ℕ → Type 0) → IsGenuine kept scene events house → P (report_text (rules_in house.kept.program) house.scene house.history) → P (report_text (rules_in kept.program) scene (reverse events))
report_of kept scene events house P g h = rw (g.kept_is, g.scene_is, g.history) at h

finds : (kept : Kept) (scene : Scene) (events : List Event) (tail : List ℕ) (told : Ruling) (count : ℕ) (found : Finding) → Tells kept scene events told → HasEvents tail events → count ≡ length events → ComesTo told count tail found → Finds (rules_in kept.program) scene tail found
finds kept scene events tail (ruling.FirstFalse number) count found tells has counted comes = rw comes (events, has, tells)
finds kept scene events tail (ruling.Genuine house) count (Genuine n) g has counted comes = (
  reverse events,
  record {
    run = g.run;
    few = omega (arith, length-reverse events, has.front.few);
    text = report_of kept scene events house (λ text. transcript_line ++ tail ≡ text) g comes.1;
  },
  omega (arith, comes.0, counted, length-reverse events),
)
finds kept scene events tail (ruling.Genuine house) count (FalseEvent n) g has counted comes = absurd comes
finds kept scene events tail (ruling.Genuine house) count (FalseLine n) g has counted comes =
    (events, has, g.run, report_of kept scene events house (λ text. IsFirstFalseLine text (transcript_line ++ tail) n) g comes)

pub finds_if_ok : {E : Type 0} (kept : Kept) (scene : Scene) (events : List Event) (tail : List ℕ) (told : Ruling) (count : ℕ) (r : Result Finding E) → Tells kept scene events told → HasEvents tail events → count ≡ length events → IfOk r (ComesTo told count tail) → IfOk r (Finds (rules_in kept.program) scene tail)
finds_if_ok kept scene events tail told count (Ok found) tells has counted comes = finds kept scene events tail told count found tells has counted comes
finds_if_ok kept scene events tail told count (Err e) tells has counted comes = tt

-- Programs that are alike are kept with the same rules.
use Rattle.std.proofs.Common.{◌≡◌, sym, ◌∙◌, ap}
use Rattle.carol_accept.specs.Refusals.{IsKeptAs}
use Rattle.carol_prepare.proofs.Settled.{AreAlike}
use Rattle.carol_program.specs.declared.program.Program.{Program}
use Rattle.carol_program.specs.Rules.{rules_in}
use Rattle.carol_reading.specs.Kept.{Kept}

pub same_rules : (one two : Program) → AreAlike one two → (kept other : Kept) → IsKeptAs one kept → IsKeptAs two other → rules_in kept.program ≡ rules_in other.program
same_rules one two alike kept other is also = ap rules_in is.same ∙ (alike.rules ∙ sym (ap rules_in also.same))

use Rattle.carol_vault.proofs.OneFinding.{findings_are_single, shown_is_sound}
use Rattle.carol_vault.proofs.laws.vault_laws.Goals as goal

pub returns-clause-single : goal.returns-clause-single
returns-clause-single c = findings_are_single

pub returns-clause-shown : goal.returns-clause-shown
returns-clause-shown c = shown_is_sound c.event_numbers.ensures

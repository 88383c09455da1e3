use Rattle.carol_audit.proofs.NumbersFit.{numbers_fit}
use Rattle.carol_audit.proofs.numbers.event_numbers.Goals as goal

pub returns : goal.returns
returns c = numbers_fit (record { uphold = c.simulation.ensures.uphold; named = c.history_laws.ensures.named })

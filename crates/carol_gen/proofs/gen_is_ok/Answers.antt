use Rattle.carol_gen.proofs.Succeeds.{generated_is_input, succeeds}
use Rattle.carol_gen.proofs.gen_is_ok.Goals as goal

pub returns-clause-input : goal.returns-clause-input
returns-clause-input c = generated_is_input c.generated_is_read.ensures c.generated_is_faultless.ensures c.bank_is_accepted.ensures

pub returns-clause-ok : goal.returns-clause-ok
returns-clause-ok c = succeeds (returns-clause-input c) c.one_outcome.ensures

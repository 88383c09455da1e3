use Rattle.carol_prepare.proofs.Told.{told_text}
use Rattle.carol_prepare.proofs.bytes.file_of.Goals as goal

pub returns-in-Err-clause-told : goal.returns-in-Err-clause-told
returns-in-Err-clause-told c = told_text (λ _ _. ⊥) c.args.bytes.now c.in-Err.error c.bad_text.result c.in-Err.ensures.means c.bad_text.ensures

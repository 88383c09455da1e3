use Rattle.carol_formula.specs.Tree.{claim_of}
use Rattle.carol_cert.proofs.Sound.{claim_never_true}
use Rattle.carol_cert.proofs.checker.check.Goals as goal

pub returns-clause-sound : goal.returns-clause-sound
returns-clause-sound c holds = claim_never_true (claim_of c.args.formula.now) (rw c.from_ref.ensures.value at (c.check_list.ensures.sound holds))

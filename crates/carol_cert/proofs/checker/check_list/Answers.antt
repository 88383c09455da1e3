use Rattle.std.proofs.Common.{map, ap}
use Rattle.carol_formula.specs.Tree.{claim_of}
use Rattle.carol_cert.specs.Proof.{proof_of}
use Rattle.carol_cert.specs.declared.checker.Walked.{Walked}
use Rattle.carol_cert.proofs.Gaps.{no_gap, no_way}
use Rattle.carol_cert.proofs.Sound.{never_true}
use Rattle.carol_cert.proofs.checker.check_list.Goals as goal

pub returns-in-Some-clause-exact : goal.returns-in-Some-clause-exact
returns-in-Some-clause-exact c = no_gap (proof_of c.args.tree.now) (map claim_of c.args.formulas.now) c.in-Some.walk.has_gap (rw c.root.ensures.claims at c.in-Some.ensures.0) (ap (λ (w : Walked). w.has_gap) c.in-Some.ensures.1)

pub returns-in-Some-clause-sound : goal.returns-in-Some-clause-sound
returns-in-Some-clause-sound c holds = never_true (proof_of c.args.tree.now) (map claim_of c.args.formulas.now) ((returns-in-Some-clause-exact c).0 holds)

pub returns-in-None-clause-exact : goal.returns-in-None-clause-exact
returns-in-None-clause-exact c = no_way (proof_of c.args.tree.now) (map claim_of c.args.formulas.now) (rw c.root.ensures.claims at c.in-None.ensures)

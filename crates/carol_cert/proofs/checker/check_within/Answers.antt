use Rattle.std.proofs.Common.{Bool, map, ap, subst}
use Rattle.std.specs.Prelude.{IsTrue, not}
use Rattle.carol_formula.specs.Tree.{claim_of}
use Rattle.carol_cert.specs.Proof.{proof_of}
use Rattle.carol_cert.specs.declared.checker.Walked.{Walked}
use Rattle.carol_cert.proofs.Gaps.{no_gap, no_way}
use Rattle.carol_cert.proofs.checker.check_within.Goals as goal

pub returns-then-walk-clause-exact : goal.returns-then-walk-clause-exact
returns-then-walk-clause-exact c = λ refutes few.
    let gap = no_gap (proof_of c.args.tree.now) (map claim_of c.from_ref-formulas.result.now) c.in-Some.walk.has_gap (rw c.root.ensures.claims at c.in-Some.ensures.0) (ap (λ (w : Walked). w.has_gap) c.in-Some.ensures.1) in
    subst (λ (b : Bool). IsTrue (not b)) c.if-walk.true ((rw c.from_ref-formulas.ensures.value at gap).1 refutes)

pub returns-else-walk-clause-refutes : goal.returns-else-walk-clause-refutes
returns-else-walk-clause-refutes c = λ _.
    let gap = no_gap (proof_of c.args.tree.now) (map claim_of c.from_ref-formulas.result.now) c.in-Some.walk.has_gap (rw c.root.ensures.claims at c.in-Some.ensures.0) (ap (λ (w : Walked). w.has_gap) c.in-Some.ensures.1) in
    (rw c.from_ref-formulas.ensures.value at gap).0 (ap not c.if-walk.false)

pub returns-in-None-clause-exact : goal.returns-in-None-clause-exact
returns-in-None-clause-exact c = λ refutes few.
    let way = no_way (proof_of c.args.tree.now) (map claim_of c.from_ref-formulas.result.now) (rw c.root.ensures.claims at c.in-None.ensures) in
    (rw c.from_ref-formulas.ensures.value at way).1 refutes

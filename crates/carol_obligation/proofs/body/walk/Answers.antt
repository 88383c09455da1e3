use Rattle.std.proofs.Common.{◌≡◌, ◌∙◌, ap, rules}
use Rattle.std.specs.Prelude.{map}
use Rattle.carol_formula.specs.declared.formula.Formula.{the_lemmas}
use Rattle.carol_formula.specs.Claim.{True}
use Rattle.carol_formula.specs.Tree.{claim_of}
use Rattle.carol_program.specs.Rules.{rules_in, op_rules}
use Rattle.carol_obligation.specs.Formed.{with_all}
use Rattle.carol_obligation.proofs.Places.{whole_owed}
use Rattle.carol_obligation.proofs.Steps.{ready_start}
use Rattle.carol_obligation.proofs.body.walk.Goals as goal

pub walk_body-requires-clause-ready : goal.walk_body-requires-clause-ready
walk_body-requires-clause-ready g c =
    let start : claim_of c.in_ok-known.known ≡ True = search (rules, the_lemmas)
    in let known : claim_of c.in_ok-known-2.known ≡ with_all (op_rules c.args.op.now).params True
    = c.in_ok-known-2.ensures ∙ (ap (λ fs. with_all (map claim_of fs) (claim_of c.in_ok-known.known)) c.as_slice.ensures ∙ ap (with_all (op_rules c.args.op.now).params) start)
    in ready_start (rules_in c.args.program.now) (op_rules c.args.op.now) c.args.number (claim_of c.in_ok-known-2.known) c.requires.op known

pub returns : goal.returns
returns g c =
    let start : claim_of c.in_ok-known.known ≡ True = search (rules, the_lemmas)
    in let known : claim_of c.in_ok-known-2.known ≡ with_all (op_rules c.args.op.now).params True
    = c.in_ok-known-2.ensures ∙ (ap (λ fs. with_all (map claim_of fs) (claim_of c.in_ok-known.known)) c.as_slice.ensures ∙ ap (with_all (op_rules c.args.op.now).params) start)
    in whole_owed g.C.Collector.holds c.args.collector.now c.walk_body.new.collector (rules_in c.args.program.now) (op_rules c.args.op.now) c.args.number (claim_of c.in_ok-known-2.known) known c.in_ok-walk_body.ensures

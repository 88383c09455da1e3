use Rattle.std.proofs.Common.{false, subst, sym, refl, inl}
use Rattle.carol_formula.specs.Bounds.{narrow_limit}
use Rattle.carol_formula.specs.Claim.{ClaimWithin}
use Rattle.carol_formula.specs.Numbers.{number_at}
use Rattle.carol_formula.specs.Tree.{claim_of}
use Rattle.carol_decide.specs.Answer.{IsAnswer, Settles}
use Rattle.carol_decide.specs.declared.answer.TheConstants.{MOST_LEAVES}
use Rattle.carol_formula.proofs.Light.{narrow_light, narrow_without_not}
use Rattle.carol_typecheck.proofs.Judging.{small_denial, valid_refuted, false_at, stuck_for}
use Rattle.carol_typecheck.proofs.judge.judge.Goals as goal

pub denial_form-requires : goal.denial_form-requires
denial_form-requires c = narrow_light (claim_of c.args.obligation.now.formula) c.requires.light

pub decide-requires-clause-narrow : goal.decide-requires-clause-narrow
decide-requires-clause-narrow c =
    subst (ClaimWithin narrow_limit) (sym c.in_ok-denial.ensures.form)
    (narrow_without_not false (claim_of c.args.obligation.now.formula) c.requires.light)

pub decide-requires-clause-small : goal.decide-requires-clause-small
decide-requires-clause-small c =
    small_denial (claim_of c.args.obligation.now.formula) (claim_of c.in_ok-denial.denial) c.in_ok-denial.ensures.form c.requires.few

pub nearer-requires-clause-small : goal.nearer-requires-clause-small
nearer-requires-clause-small c =
    small_denial (claim_of c.args.obligation.now.formula) (claim_of c.in_ok-denial.denial) c.in_ok-denial.ensures.form c.requires.few

pub nearer-requires-clause-sat : goal.nearer-requires-clause-sat
nearer-requires-clause-sat c = subst (IsAnswer (claim_of c.in_ok-denial.denial) MOST_LEAVES) c.in-Sat.is c.in_ok-decide.ensures.answer

pub returns-in-Unsat : goal.returns-in-Unsat
returns-in-Unsat c =
    let o = c.args.obligation.now in
    (valid_refuted (claim_of o.formula) (claim_of c.in_ok-denial.denial) MOST_LEAVES c.in-Unsat.field-0 c.in_ok-denial.ensures.truth (subst (IsAnswer (claim_of c.in_ok-denial.denial) MOST_LEAVES) c.in-Unsat.is c.in_ok-decide.ensures.answer), tt)

pub returns-in-Sat : goal.returns-in-Sat
returns-in-Sat c =
    let o = c.args.obligation.now in
    inl (refl, false_at (claim_of o.formula) (claim_of c.in_ok-denial.denial) (number_at c.in_ok-at-in-Sat.at) c.in_ok-denial.ensures.truth c.in_ok-at-in-Sat.ensures)

pub returns : goal.returns
returns c =
    inl (
      refl,
      stuck_for (claim_of c.args.obligation.now.formula) (claim_of c.in_ok-denial.denial) c.in-Undecided.why c.in_ok-denial.ensures.form
          (subst (IsAnswer (claim_of c.in_ok-denial.denial) MOST_LEAVES) c.in-Undecided.is c.in_ok-decide.ensures.answer)
          (subst (Settles (claim_of c.in_ok-denial.denial) MOST_LEAVES) c.in-Undecided.is c.in_ok-decide.ensures.settles),
    )

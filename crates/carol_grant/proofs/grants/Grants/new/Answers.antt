use Rattle.std.proofs.Common.{◌≤◌, length}
use Rattle.carol_program.specs.declared.limits.TheConstants.{MOST_SESSIONS}
use Rattle.carol_grant.proofs.Bare.{IsKept-bare, is_granted-bare}
use Rattle.carol_grant.proofs.grants.Grants.new.Goals as goal

pub invariant_of-result : goal.invariant_of-result
invariant_of-result c =
    let few : length c.in_ok-bare_rows.field-0.items ≤ MOST_SESSIONS = rw c.in_ok-bare_rows.ensures.count c.requires.few_sessions
    in rw (c.copy.ensures, c.in_ok-copy.ensures)
    (IsKept-bare c.args.shape.now c.args.accords.now c.args.guards _ _ c.requires.shape c.kinds-kinds.ensures.few c.requires.guards c.requires.few_guards few c.in_ok-bare_rows.ensures.bare c.new.ensures.size c.new.ensures.none)

pub returns-clause-none : goal.returns-clause-none
returns-clause-none c = λ s g. is_granted-bare c.in_ok-bare_rows.field-0.items s g c.in_ok-bare_rows.ensures.bare

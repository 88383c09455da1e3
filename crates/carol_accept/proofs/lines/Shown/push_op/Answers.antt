use Rattle.std.proofs.Common.{sym, subst, ◌∙◌}
use Rattle.carol_program.specs.Bodies.{body_of}
use Rattle.carol_accept.specs.Fitting.{IsShortTrail, StandsBehind}
use Rattle.carol_accept.proofs.Standing.{short_trail}
use Rattle.carol_accept.proofs.lines.Shown.push_op.Goals as goal

pub push_trail-requires-clause-short : goal.push_trail-requires-clause-short
push_trail-requires-clause-short g c =
    subst IsShortTrail (sym c.trail_to.ensures ∙ c.in-Some.is)
    (short_trail c.args.number (body_of c.args.op.now.body) c.new.result (subst (λ t. StandsBehind t (body_of c.args.op.now.body)) (sym c.new.ensures) c.requires.body))

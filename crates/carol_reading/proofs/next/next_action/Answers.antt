use Rattle.std.proofs.Common.{◌∙◌, sym, subst}
use Rattle.carol_program.specs.declared.program.Program.{Program}
use Rattle.carol_program.specs.Rules.{rules_in}
use Rattle.carol_reading.specs.Kept.{MayBeKept}
use Rattle.carol_reading.specs.Nexts.{IsNextOf}
use Rattle.carol_reading.specs.Walks.{IsWalkOf}
use Rattle.carol_reading.proofs.Deciding.{stands, sound, is_next}
use Rattle.carol_reading.proofs.next.next_action.Goals as goal

pub action_in-requires-clause-stands : goal.action_in-requires-clause-stands
action_in-requires-clause-stands c = stands c.program-program.result.now c.args.command.now c.args.seen.now c.as_slice.result.now c.index-as_slice-command.result c.args.accepted.now.accords (c.as_slice.ensures, c.index-as_slice-command.is)
    (subst (λ (p : Program). MayBeKept p c.args.accepted.now.accords) (sym c.program-program.ensures.program) c.program-program.ensures.kept)
    (subst (λ (p : Program). IsWalkOf (rules_in p) c.args.command.now c.args.seen.now) (sym c.program-program.ensures.program) c.requires)

pub action_in-requires-clause-action : goal.action_in-requires-clause-action
action_in-requires-clause-action c = sound c.program-program.result.now c.args.command.now c.args.seen.now c.as_slice.result.now c.index-as_slice-command.result c.args.accepted.now.accords c.as_words-args.result.now (c.as_slice.ensures, c.index-as_slice-command.is)
    (subst (λ (p : Program). MayBeKept p c.args.accepted.now.accords) (sym c.program-program.ensures.program) c.program-program.ensures.kept)
    (c.as_words-args.ensures.numbers ∙ c.as_slice-2.ensures)
    (subst (λ (p : Program). IsWalkOf (rules_in p) c.args.command.now c.args.seen.now) (sym c.program-program.ensures.program) c.requires)

pub returns : goal.returns
returns c = subst (λ (p : Program). IsNextOf (rules_in p) c.args.command.now c.args.seen.now c.action_in.result) c.program-program.ensures.program
    (is_next c.program-program.result.now c.args.command.now c.args.seen.now c.as_slice.result.now c.index-as_slice-command.result c.as_words-args.result.now c.action_in.result (c.as_slice.ensures, c.index-as_slice-command.is) (c.as_words-args.ensures.numbers ∙ c.as_slice-2.ensures) c.action_in.ensures)

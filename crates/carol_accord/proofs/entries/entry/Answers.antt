use Rattle.std.proofs.Common.{◌≡◌, ◌≤◌, ◌<◌, List, length, get_or, arith, refl, sym, ap, subst}
use Rattle.std.specs.Prelude.{Some, slice_get}
use Rattle.std.proofs.lemmas.Option.{slice_get-get_or}
use Rattle.carol_store.specs.declared.shape.CellKind.{CellKind}
use Rattle.carol_store.specs.declared.shape.CellKind.TheVariants.{Counter}
use Rattle.carol_store.specs.declared.direction.Direction.{Direction}
use Rattle.carol_formula.specs.Claim.{Claim}
use Rattle.carol_formula.specs.Tree.{claim_of}
use Rattle.carol_program.specs.Accords.{HasWay}
use Rattle.carol_formula.specs.Size.{nodes_of, IsLight}
use Rattle.carol_accord.specs.Parts.{IsGuard, most_formula}
use Rattle.carol_accord.proofs.Ended.{step_yes, step_no, step_open}
use Rattle.carol_accord.proofs.Light.{step_light, step_nodes}
use Rattle.carol_accord.proofs.Listed.{way-within}
use Rattle.carol_accord.proofs.entries.entry.Goals as goal

within : (kinds shape : List CellKind) (step : Direction) → kinds ≡ shape → HasWay shape step.cell step.up → step.cell < length kinds
within kinds shape step e h = omega (arith, way-within shape step.cell step.up h, ap length e)

kind-at : (kinds shape : List CellKind) (step : Direction) → kinds ≡ shape → HasWay shape step.cell step.up → slice_get shape step.cell ≡ Some (get_or kinds step.cell Counter)
kind-at kinds shape step e h = subst (λ (ks : List CellKind). slice_get ks step.cell ≡ Some (get_or kinds step.cell Counter)) e (slice_get-get_or kinds step.cell Counter (within kinds shape step e h))

pub bounds-kinds-step : goal.bounds-kinds-step
bounds-kinds-step c = within c.kinds-kinds.result.now c.args.program.now.shape c.args.step c.kinds-kinds.ensures.kinds c.requires.step

pub step_formula-requires-clause-cell : goal.step_formula-requires-clause-cell
step_formula-requires-clause-cell c = omega (arith, way-within c.args.program.now.shape c.args.step.cell c.args.step.up c.requires.step, c.requires.guard.few)

pub decided-requires-clause-light : goal.decided-requires-clause-light
decided-requires-clause-light c =
    let kinds = c.kinds-kinds.result.now
    in let g : IsGuard kinds (claim_of c.args.guard.now) = subst (λ ks. IsGuard ks (claim_of c.args.guard.now)) (sym c.kinds-kinds.ensures.kinds) c.requires.guard
    in let lt : c.args.step.cell < 16 = omega (arith, way-within c.args.program.now.shape c.args.step.cell c.args.step.up c.requires.step, c.requires.guard.few)
    in subst IsLight (sym c.in_ok-formula.ensures) (step_light kinds (claim_of c.args.guard.now) (get_or kinds c.args.step.cell Counter) c.args.step g lt)

pub decided-requires-clause-small : goal.decided-requires-clause-small
decided-requires-clause-small c =
    let kinds = c.kinds-kinds.result.now
    in let g : IsGuard kinds (claim_of c.args.guard.now) = subst (λ ks. IsGuard ks (claim_of c.args.guard.now)) (sym c.kinds-kinds.ensures.kinds) c.requires.guard
    in subst (λ (d : Claim). nodes_of d ≤ most_formula) (sym c.in_ok-formula.ensures) (step_nodes kinds (claim_of c.args.guard.now) (get_or kinds c.args.step.cell Counter) c.args.step g)

pub returns-in-Unsat-clause-ok : goal.returns-in-Unsat-clause-ok
returns-in-Unsat-clause-ok c =
    let kinds = c.kinds-kinds.result.now
    in let shape = c.args.program.now.shape
    in step_yes shape (claim_of c.args.guard.now) c.requires.guard (get_or kinds c.args.step.cell Counter) c.args.step (kind-at kinds shape c.args.step c.kinds-kinds.ensures.kinds c.requires.step) kinds c.kinds-kinds.ensures.kinds (claim_of c.in_ok-formula.formula) c.in_ok-formula.ensures c.in_ok-decided.field-0 c.in_ok-decided.ensures c.in-Unsat.field-0 c.in-Unsat.is

pub returns-in-Sat-clause-ok : goal.returns-in-Sat-clause-ok
returns-in-Sat-clause-ok c =
    let kinds = c.kinds-kinds.result.now
    in let shape = c.args.program.now.shape
    in step_no shape (claim_of c.args.guard.now) c.requires.guard (get_or kinds c.args.step.cell Counter) c.args.step (kind-at kinds shape c.args.step c.kinds-kinds.ensures.kinds c.requires.step) kinds c.kinds-kinds.ensures.kinds (claim_of c.in_ok-formula.formula) c.in_ok-formula.ensures c.in_ok-decided.field-0 c.in_ok-decided.ensures c.in-Sat.at c.in-Sat.is

pub returns-clause-err : goal.returns-clause-err
returns-clause-err c =
    let kinds = c.kinds-kinds.result.now
    in let shape = c.args.program.now.shape
    in (refl, refl, step_open shape (claim_of c.args.guard.now) c.requires.guard (get_or kinds c.args.step.cell Counter) c.args.step (kind-at kinds shape c.args.step c.kinds-kinds.ensures.kinds c.requires.step) kinds c.kinds-kinds.ensures.kinds (claim_of c.in_ok-formula.formula) c.in_ok-formula.ensures c.in_ok-decided.field-0 c.in_ok-decided.ensures c.in-Undecided.why c.in-Undecided.is)

use Rattle.std.proofs.Common.{ap, map, ◌∙◌}
use Rattle.carol_syntax.specs.Files.{op_tree}
use Rattle.carol_syntax.specs.Formulas.{formula_tree}
use Rattle.carol_meaning.specs.Faults.{earliest}
use Rattle.carol_meaning.specs.Terms.{formula_faults}
use Rattle.carol_meaning.specs.Stores.{in_invariant}
use Rattle.carol_meaning.specs.Operations.{op_meaning}
use Rattle.carol_meaning.specs.Programs.{around}
use Rattle.carol_syntax.specs.Files.{program_tree}
use Rattle.carol_resolve.proofs.Program.{around-is, all-noted}
use Rattle.carol_resolve.proofs.parts.find_parts.Goals as goal

pub returns-clause-faults : goal.returns-clause-faults
returns-clause-faults c =
    all-noted c.args.program.now c.args.finder.now _ _ _ _ _ c.as_slice-declarations.result.now _ c.as_slice-guard_list.result.now c.as_slice.result.now _ c.as_slice-declarations.ensures
    (c.new-cells.ensures ∙ c.as_slice-declarations.ensures) c.as_slice-guard_list.ensures c.as_slice.ensures
    (around-is c.args.program.now _ c.as_slice-guard_list.result.now _ (c.new-cells.ensures ∙ c.as_slice-declarations.ensures) c.as_slice-guard_list.ensures c.new-around.ensures)
    c.in_ok-note_cells.ensures c.in_ok-note_lists.ensures
    (c.in_ok-invariant.ensures.faults ∙ ap (λ cs. earliest c.note_lists.new.finder (formula_faults (in_invariant cs) (formula_tree c.args.program.now.invariant))) c.new-place.ensures)
    c.in_ok-guards.ensures.faults c.in_ok-ops.ensures.faults

pub returns-clause-ops : goal.returns-clause-ops
returns-clause-ops c =
    c.in_ok-ops.ensures.meaning ∙
    ap (λ a. map (op_meaning a) (map op_tree c.as_slice.result.now))
    (around-is c.args.program.now _ c.as_slice-guard_list.result.now _ (c.new-cells.ensures ∙ c.as_slice-declarations.ensures) c.as_slice-guard_list.ensures c.new-around.ensures) ∙
    ap (λ os. map (op_meaning (around (program_tree c.args.program.now))) (map op_tree os)) c.as_slice.ensures

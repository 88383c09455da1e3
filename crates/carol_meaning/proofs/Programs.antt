-- Programs without faults are well formed.
use Rattle.std.proofs.Common.{◌≡◌, ◌≤◌, inl, inr, List, [], ◌∷◌, map, length, arith, sym, ◌∙◌, subst}
use Rattle.std.specs.List.{AllByRecursion, flat_map}
use Rattle.std.proofs.lemmas.List.{length-map}
use Rattle.carol_store.specs.declared.shape.CellKind.{CellKind}
use Rattle.carol_formula.specs.Claim.{Claim}
use Rattle.carol_syntax.specs.Files.{NamedFormula, OpTree, ProgramTree}
use Rattle.carol_syntax.specs.Shape.{IsOp, IsProgram}
use Rattle.carol_meaning.specs.Sizes.{IsShortNamed, IsShortOp, IsShortProgram}
use Rattle.carol_program.specs.Limits.{most_cells, most_guards, most_ops}
use Rattle.carol_program.specs.Variables.{invariant_variables, guard_variables}
use Rattle.carol_program.specs.WellFormed.{IsFormulaOver, IsOpOver, AreCalled, AreRules, IsNamed, IsWellFormed}
use Rattle.carol_meaning.specs.Declarations.{too_many}
use Rattle.carol_meaning.specs.Cells.{kinds_in}
use Rattle.carol_meaning.specs.Terms.{formula_meaning, formula_faults}
use Rattle.carol_meaning.specs.Stores.{in_invariant, in_guard}
use Rattle.carol_meaning.specs.Bodies.{Around}
use Rattle.carol_meaning.specs.Operations.{op_faults, op_meaning, op_names}
use Rattle.carol_meaning.specs.Programs.{guard_names, op_idents, around, program_faults, rules_of, names_of}
use Rattle.carol_meaning.specs.Laws.{FaultlessIsWellFormed}
use Rattle.carol_meaning.proofs.Lists.{no_part, each-none, few, All-both, All-map}
use Rattle.carol_meaning.proofs.Among.{AreNarrow}
use Rattle.carol_meaning.proofs.Terms.{formula-over}
use Rattle.carol_meaning.proofs.Cells.{few-cells, cell-titles, short-titles, cells-start}
use Rattle.carol_meaning.proofs.Looks.{invariant-looks, guard-looks}
use Rattle.carol_meaning.proofs.Operations.{op-over, op-called, words-short, names-of}

-- ---- variables of stores

invariant-narrow : (cells : List CellKind) → length cells ≤ most_cells → AreNarrow (invariant_variables cells)
invariant-narrow cells h v (inl k) = omega (arith, h, k.1)
invariant-narrow cells h v (inr k) = absurd k

guard-narrow : (cells : List CellKind) → length cells ≤ most_cells → AreNarrow (guard_variables cells)
guard-narrow cells h v (inl k) = omega (arith, h, k.1)
guard-narrow cells h v (inr (inl k)) = omega (arith, h, k.1)
guard-narrow cells h v (inr (inr k)) = absurd k

-- ---- names

all-called : (around : Around) (ops : List OpTree) → AllByRecursion IsOp ops → AreCalled (map (op_meaning around) ops) (map op_names ops)
all-called around [] h = tt
all-called around (o ∷ ops) h = (op-called around o h.0, all-called around ops h.1)

-- ---- the program

module _ (tree : ProgramTree) (shape : IsProgram tree) (sized : IsShortProgram tree) (none : program_faults tree ≡ []) where
  abbrev cells : List CellKind
  cells = flat_map kinds_in tree.cells

  abbrev guard : NamedFormula → Claim
  guard g = formula_meaning (in_guard tree.cells) g.formula

  few-kinds : length cells ≤ most_cells
  few-kinds = few-cells tree.cells (search no_part)

  few-guards : length (guard_names tree) ≤ most_guards
  few-guards =
      let none-more : too_many most_guards (guard_names tree) ≡ [] = search no_part in
      few most_guards (guard_names tree) none-more

  few-ops : length (op_idents tree) ≤ most_ops
  few-ops =
      let none-more : too_many most_ops (op_idents tree) ≡ [] = search no_part in
      few most_ops (op_idents tree) none-more

  guard-over : (g : NamedFormula) → IsShortNamed g × (formula_faults (in_guard tree.cells) g.formula ≡ []) → IsFormulaOver (guard_variables cells) (guard g)
  guard-over g h = formula-over (guard_variables cells) (guard-narrow cells few-kinds) (in_guard tree.cells)
      (guard-looks (guard_variables cells) tree.cells (λ v l k. inl (l, k)) (λ v l k. inr (inl (l, k)))) g.formula h.0 h.1

  guards-over : AllByRecursion (IsFormulaOver (guard_variables cells)) (map guard tree.guards)
  guards-over =
      let faultless = each-none (λ g. formula_faults (in_guard tree.cells) g.formula) tree.guards (search no_part) in
      All-map _ (IsFormulaOver (guard_variables cells)) guard guard-over tree.guards (All-both _ _ tree.guards sized.guards faultless)

  -- as many guards as the program has
  guards-count : length (guard_names tree) ≡ length (map guard tree.guards)
  guards-count = length-map tree.guards (λ g. g.name) ∙ sym (length-map tree.guards guard)

  op-fits : (o : OpTree) → IsOp o × (IsShortOp o × (op_faults (around tree) o ≡ [])) → IsOpOver cells (length (map guard tree.guards)) (op_meaning (around tree) o)
  op-fits o h = subst (λ n. IsOpOver cells n (op_meaning (around tree) o)) guards-count (op-over (around tree) few-kinds o h.0 h.1.0 h.1.1)

  ops-over : AllByRecursion (IsOpOver cells (length (map guard tree.guards))) (map (op_meaning (around tree)) tree.ops)
  ops-over =
      let faultless = each-none (op_faults (around tree)) tree.ops (search no_part) in
      All-map _ (IsOpOver cells (length (map guard tree.guards))) (op_meaning (around tree)) op-fits tree.ops
      (All-both _ _ tree.ops shape.ops (All-both _ _ tree.ops sized.ops faultless))

  rules : AreRules (rules_of tree)
  rules = record {
    few_cells = few-kinds;
    few_guards = omega (arith, few-guards, guards-count);
    few_ops = omega (arith, few-ops, length-map tree.ops (op_meaning (around tree)), length-map tree.ops (λ o. o.name));
    store = (cells-start tree.cells shape.cells).0;
    start = (cells-start tree.cells shape.cells).1;
    invariant = formula-over (invariant_variables cells) (invariant-narrow cells few-kinds) (in_invariant tree.cells)
        (invariant-looks (invariant_variables cells) tree.cells (λ v l k. inl (l, k))) tree.invariant sized.invariant (search no_part);
    guards = guards-over;
    ops = ops-over;
  }

  named : IsNamed (rules_of tree) (names_of tree)
  named = record {
    cells = cell-titles tree.cells;
    short_cells = short-titles tree.cells shape.cells;
    guards = length-map (guard_names tree) (λ i. i.word) ∙ guards-count;
    short_guards = words-short (guard_names tree) (names-of tree.guards shape.guards);
    ops = all-called (around tree) tree.ops shape.ops;
  }

  well-formed : IsWellFormed (rules_of tree) (names_of tree)
  well-formed = record { rules = rules; named = named }

-- a program without faults is well formed
pub faultless_is_well_formed : FaultlessIsWellFormed
faultless_is_well_formed tree shape sized none = well-formed tree shape sized none

-- Guards, operations and programs.
use Rattle.std.proofs.Common.{ℕ, List, [], ◌∷◌, refl, arith}
use Rattle.std.specs.Prelude.{map}
use Rattle.std.specs.List.{AllByRecursion}
use Rattle.carol_grammar.specs.Rule.Rule.{begins}
use Rattle.carol_syntax.specs.declared.cells.CellDecl.{CellDecl}
use Rattle.carol_syntax.specs.Files.{NamedFormula, OpTree, ProgramTree}
use Rattle.carol_syntax.specs.Unplaced.{unplaced_cell, unplaced_named, unplaced_op, unplaced_program}
use Rattle.carol_syntax.specs.Shape.{IsCell, IsNamed, IsOp, IsProgram}
use Rattle.carol_syntax.specs.declared.kind.Kind.TheVariants as k
use Rattle.carol_grammar.specs.Terminals.{number_of}
use Rattle.carol_grammar.specs.Rules.{cell, cell_words, guard, param, list_of, some_params, params, op, cells, guards, ops, program}
use Rattle.carol_print.specs.Pieces.{Piece}
use Rattle.carol_print.specs.Canonical as text
use Rattle.carol_print.proofs.Reached.{Same, Reaches, onto, onto-append, reach_gives, reach_both, reach_begins, reach_behind, reach_before, reach_some, reach_none}
use Rattle.carol_print.proofs.Terminals.{reach_name}
use Rattle.carol_print.proofs.ReadLists.{reach_concat, reach_listed}
use Rattle.carol_print.proofs.ReadCells.{reach_cell}
use Rattle.carol_print.proofs.ReadFormulas.{reach_formula}
use Rattle.carol_print.proofs.ReadBodies.{reach_body}

module _ {bytes : List ℕ} where
  reach_guard : (g : NamedFormula) {us : List Piece} → IsNamed g
      → Reaches bytes (guard bytes) (onto (text.guard g) us) us (Same unplaced_named g)
  unfolding guard
  reach_guard g h =
      simp onto-append (reach_gives (reach_behind refl (reach_both (reach_name g.name)
      (reach_before refl (reach_behind refl (reach_formula g.formula h.1))))) (λ y e. cc))

  reach_param : (p : NamedFormula) {us : List Piece} → IsNamed p
      → Reaches bytes (param bytes) (onto (text.param p) us) us (Same unplaced_named p)
  unfolding param
  reach_param p h = reach_gives (reach_both (reach_name p.name) (reach_behind refl (reach_formula p.formula h.1))) (λ y e. cc)

  reach_some_params : (ps : List NamedFormula) {us : List Piece} → AllByRecursion IsNamed ps
      → Reaches bytes (some_params bytes) (onto (text.with_commas (map text.param ps)) us) us (Same (map unplaced_named) ps)
  unfolding some_params
  reach_some_params [] h = reach_gives (reach_none {Q = λ o. Same (map unplaced_named) [] (list_of o)} refl) (λ y e. e)
  reach_some_params (p ∷ ps) h =
      reach_gives (reach_some {Q = λ o. Same (map unplaced_named) (p ∷ ps) (list_of o)}
      (reach_begins (reach_listed (param bytes) text.param IsNamed unplaced_named (λ x us i. reach_param x i) (p ∷ ps) (omega arith, h)))
      (λ y e. e)) (λ y e. e)

  reach_op : (o : OpTree) {us : List Piece} → IsOp o → Reaches bytes (op bytes) (onto (text.op o) us) us (Same unplaced_op o)
  unfolding op params
  reach_op o h =
      simp onto-append (reach_gives (reach_behind refl (reach_both (reach_name o.name)
      (reach_both (reach_before refl (reach_behind refl (reach_some_params o.params h.1)))
      (reach_both (reach_behind refl (reach_formula o.gives h.2)) (reach_body o.body h.3))))) (λ y e. cc))

  reach_cells : (xs : List CellDecl) {us : List Piece} → AllByRecursion IsCell xs
      → Reaches bytes (cells bytes) (onto (text.concat (map text.cell xs)) us) us (Same (map unplaced_cell) xs)
  reach_cells = reach_concat (begins cell_words (cell bytes)) text.cell IsCell unplaced_cell (λ c us h. reach_begins (reach_cell c h))

  reach_guards : (xs : List NamedFormula) {us : List Piece} → AllByRecursion IsNamed xs
      → Reaches bytes (guards bytes) (onto (text.concat (map text.guard xs)) us) us (Same (map unplaced_named) xs)
  reach_guards =
      reach_concat (begins (number_of k.Guard ∷ []) (guard bytes)) text.guard IsNamed unplaced_named
      (λ g us h. reach_begins (reach_guard g h))

  reach_ops : (xs : List OpTree) {us : List Piece} → AllByRecursion IsOp xs
      → Reaches bytes (ops bytes) (onto (text.concat (map text.op xs)) us) us (Same (map unplaced_op) xs)
  reach_ops = reach_concat (begins (number_of k.Op ∷ []) (op bytes)) text.op IsOp unplaced_op (λ o us h. reach_begins (reach_op o h))

  pub reach_program : (p : ProgramTree) {us : List Piece} → IsProgram p
      → Reaches bytes (program bytes) (onto (text.program p) us) us (Same unplaced_program p)
  unfolding program
  reach_program p h =
      simp onto-append (reach_gives (reach_behind refl (reach_both (reach_cells p.cells h.cells)
      (reach_both (reach_before refl (reach_behind refl (reach_formula p.invariant h.invariant)))
      (reach_both (reach_guards p.guards h.guards) (reach_before refl (reach_ops p.ops h.ops)))))) (λ y e. cc))

-- Guards, operations and programs.
use Rattle.std.proofs.Common.{ℕ, List, Option}
use Rattle.std.specs.Prelude.{Some, None, IfSome}
use Rattle.std.specs.List.{AllByRecursion}
use Rattle.carol_grammar.proofs.Says.{says_begins}
use Rattle.carol_grammar.proofs.Given.{hold_gives, hold_both, hold_perhaps, hold_many, hold_behind, hold_before}
use Rattle.carol_syntax.specs.Shape.{IsCell, IsNamed, IsOp, IsProgram, AreSome}
use Rattle.carol_grammar.specs.Rules.{guard, param, list_of, some_params, params, op, cells, guards, ops, program}
use Rattle.carol_parse.proofs.Holds.{Holds, hold_listed}
use Rattle.carol_parse.proofs.Terminals.{hold_name}
use Rattle.carol_parse.proofs.Cells.{hold_cell}
use Rattle.carol_parse.proofs.Formulas.{hold_formula}
use Rattle.carol_parse.proofs.ShapedBodies.{hold_body}

-- those of a list that may be left out
pub all_listed : {A : Type 0} (P : A → Type 0) (o : Option (List A)) → IfSome o (AreSome P) → AllByRecursion P (list_of o)
all_listed P None h = tt
all_listed P (Some xs) h = h.1

module _ {bytes : List ℕ} where
  hold_guard : Holds bytes (guard bytes) IsNamed
  unfolding guard
  hold_guard = hold_gives (hold_behind (hold_both hold_name (hold_before (hold_behind hold_formula)))) (λ p h. h)

  hold_param : Holds bytes (param bytes) IsNamed
  unfolding param
  hold_param = hold_gives (hold_both hold_name (hold_behind hold_formula)) (λ p h. h)

  hold_some_params : Holds bytes (some_params bytes) (AllByRecursion IsNamed)
  unfolding some_params
  hold_some_params = hold_gives (hold_perhaps (says_begins (hold_listed hold_param))) (λ o h. all_listed IsNamed o h)

  hold_params : Holds bytes (params bytes) (AllByRecursion IsNamed)
  unfolding params
  hold_params = hold_before (hold_behind hold_some_params)

  hold_op : Holds bytes (op bytes) IsOp
  unfolding op
  hold_op =
      hold_gives (hold_behind (hold_both hold_name (hold_both hold_params (hold_both (hold_behind hold_formula) hold_body))))
      (λ p h. (h.0, h.1.0, h.1.1.0, h.1.1.1))

  hold_cells : Holds bytes (cells bytes) (AllByRecursion IsCell)
  hold_cells = hold_many (says_begins hold_cell)

  hold_guards : Holds bytes (guards bytes) (AllByRecursion IsNamed)
  hold_guards = hold_many (says_begins hold_guard)

  hold_ops : Holds bytes (ops bytes) (AllByRecursion IsOp)
  hold_ops = hold_many (says_begins hold_op)

  pub hold_program : Holds bytes (program bytes) IsProgram
  unfolding program
  hold_program =
      hold_gives
      (hold_behind (hold_both hold_cells (hold_both (hold_before (hold_behind hold_formula)) (hold_both hold_guards (hold_before hold_ops)))))
      (λ p h. record { cells = h.0; invariant = h.1.0; guards = h.1.1.0; ops = h.1.1.1 })

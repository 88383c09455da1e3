-- Declarations of cells.
use Rattle.std.proofs.Common.{ℕ, List, ℤ, arith}
use Rattle.std.specs.List.{AllByRecursion}
use Rattle.carol_grammar.proofs.Says.{says_either, says_begins}
use Rattle.carol_grammar.proofs.Given.{hold_any, hold_gives, hold_both, hold_many, hold_behind, hold_before}
use Rattle.carol_syntax.specs.declared.cells.FieldKind.{FieldKind}
use Rattle.carol_syntax.specs.Shape.{IsWhole, StartsAs, IsField, IsCell, AreSome}
use Rattle.carol_grammar.specs.Rules.{whole_kind, flag_field, field, more_fields, set_cell, record_cell, cell}
use Rattle.carol_parse.proofs.Holds.{Holds, hold_listed}
use Rattle.carol_parse.proofs.Terminals.{hold_name, hold_int, hold_bit}

-- the kind's numbers are the whole ones
abbrev StartsAny : FieldKind → Type 0
StartsAny kind = (z : ℤ) → IsWhole z → StartsAs kind z

module _ {bytes : List ℕ} where
  hold_kind : Holds bytes whole_kind StartsAny
  unfolding whole_kind
  hold_kind = says_either (hold_gives hold_any (λ l h z w. w)) (hold_gives hold_any (λ l h z w. w))

  hold_flag : Holds bytes (flag_field bytes) IsField
  unfolding flag_field
  hold_flag = hold_gives (hold_behind (hold_both hold_name (hold_before (hold_behind hold_bit)))) (λ p h. h)

  hold_field : Holds bytes (field bytes) IsField
  unfolding field
  hold_field =
      says_either (says_begins hold_flag)
      (hold_gives (hold_both hold_kind (hold_both hold_name (hold_before (hold_behind hold_int)))) (λ p h. (h.1.0, h.0 p.1.1 h.1.1)))

  hold_fields : Holds bytes (more_fields bytes) (AllByRecursion IsField)
  hold_fields = hold_many (says_begins hold_field)

  hold_set : Holds bytes (set_cell bytes) IsCell
  unfolding set_cell
  hold_set =
      hold_gives (hold_behind (hold_both hold_name (hold_before (hold_before (hold_behind (hold_listed hold_name)))))) (λ p h. h)

  hold_record : Holds bytes (record_cell bytes) IsCell
  unfolding record_cell
  hold_record =
      hold_gives
      (hold_behind (hold_both hold_name (hold_before (hold_behind
      (hold_gives {Q = AreSome IsField} (hold_both hold_field hold_fields) (λ p h. (omega arith, h)))))))
      (λ p h. h)

  pub hold_cell : Holds bytes (cell bytes) IsCell
  unfolding cell
  hold_cell =
      says_either (says_begins hold_set) (says_either (says_begins hold_record) (hold_gives hold_field (λ f h. h)))

-- Programs within the limits are small, and have one word `end`, their last.
use Rattle.std.proofs.Common.{◌≡◌, ℕ, ◌≤◌, List, [], ◌∷◌, ◌++◌, length, length-append, Option, append_assoc, ap, sym, ◌∙◌, refl, arith}
use Rattle.std.specs.Prelude.{Some, None, IfSome}
use Rattle.carol_grammar.specs.Rule.Rule.{both, gives}
use Rattle.carol_grammar.proofs.Says.{says_token, says_gives, says_less, says_two, says_both, says_either, says_many, says_begins}
use Rattle.carol_grammar.proofs.Given.{Anywhere, Given, hold_any, hold_gives, hold_both, hold_perhaps, hold_many, hold_behind, hold_before, hold_opened}
use Rattle.carol_grammar.proofs.Lacks.{Without, without_both, Lacks, Few, few_gives, few_both, few_none, few_many, few_behind, few_before}
use Rattle.carol_syntax.specs.declared.cells.CellDecl.{CellDecl}
use Rattle.carol_syntax.specs.Size.{most_items, cell_count, cell_total, AreSized, IsSizedNamed, IsSizedBody, IsSizedOp, IsSizedProgram}
use Rattle.carol_syntax.specs.declared.kind.Kind.TheVariants as k
use Rattle.carol_syntax.specs.declared.lexeme.Lexeme.{Lexeme}
use Rattle.carol_grammar.specs.Terminals.{number_of, class_of}
use Rattle.carol_grammar.specs.Rules.{RuleOf, word, name, int, bit, whole_kind, flag_field, field, set_cell, record_cell, cell, cells, member, path, outcome_value, dotted, plain_value, sized, size_value, value, times_value, multiple, product, next_product, first_product, term, conjunction, formula, change, atom, query, release, binding, issue, plain, body, guard, param, list_of, some_params, params, op, guards, ops, program}
use Rattle.carol_grammar.proofs.Places.{Good}
use Rattle.carol_grammar.proofs.Fits.{Tells, ends, lacks, filled}
use Rattle.carol_grammar.proofs.Formulas.{hold_formula}
use Rattle.carol_grammar.proofs.Statements.{opens, few_tokens, hold_short, few_listed, hold_listed}
use Rattle.carol_grammar.proofs.Bodies.{nests_body}

-- those of a list that may be left out
sized_list : {A : Type 0} (P : A → Type 0) (o : Option (List A)) → IfSome o (AreSized P) → AreSized P (list_of o)
sized_list P None h = (omega arith, tt)
sized_list P (Some xs) h = h

module _ (bytes : List ℕ) where
  -- Cells.

  few_field : Tells (field bytes) (Few (λ v. 1))
  unfolding field flag_field whole_kind name
  few_field = filled (field bytes) refl

  few_set : Tells (set_cell bytes) (Few cell_count)
  unfolding set_cell name
  few_set = few_gives (few_behind (few_both few_none (few_before (few_before (few_behind (few_listed (name bytes) refl)))))) (λ p. omega arith)

  few_record : Tells (record_cell bytes) (Few cell_count)
  unfolding record_cell
  few_record =
      few_gives
      (few_behind (few_both few_none (few_before (few_behind (few_gives {n = length} (few_both few_field (few_many (says_begins few_field))) (λ p. omega arith))))))
      (λ p. omega arith)

  few_cell : Tells (cell bytes) (Few cell_count)
  unfolding cell
  few_cell = says_either (says_begins few_set) (says_either (says_begins few_record) (few_gives few_field (λ f. omega arith)))

  cells_total : Tells (cells bytes) (Few cell_total)
  cells_total = says_many (says_begins few_cell) (record { within = omega arith }) (λ xs ys c cs a b. record {
    within = omega (arith, length-append xs ys, a.within, b.within);
  })

  filled_cell : Tells (cell bytes) (Few (λ v. 1))
  unfolding cell set_cell record_cell field flag_field whole_kind name
  filled_cell = filled (cell bytes) refl

  abbrev AreFew : List CellDecl → Type 0
  AreFew cs = (length cs ≤ most_items) × (cell_total cs ≤ most_items)

  hold_cells : Tells (cells bytes) (Given Anywhere Good AreFew)
  hold_cells = says_less (says_two (few_many (says_begins filled_cell)) cells_total) (λ ts cs h. record {
    holds = λ before s g. (omega (arith, few_tokens ts before g, h.0.within), omega (arith, few_tokens ts before g, h.1.within));
  })

  -- Guards and operations.

  hold_guard : Tells (guard bytes) (Given Anywhere Good IsSizedNamed)
  unfolding number_of guard
  hold_guard = hold_gives (hold_behind (hold_both hold_any (hold_before (hold_opened (opens k.Colon refl) hold_formula)))) (λ p h. h.1)

  hold_guards : Tells (guards bytes) (Given Anywhere Good (AreSized IsSizedNamed))
  unfolding guard
  hold_guards = hold_short (hold_many (says_begins hold_guard)) (few_many (says_begins (filled (guard bytes) refl)))

  hold_param : Tells (param bytes) (Given Anywhere Good IsSizedNamed)
  unfolding number_of param
  hold_param = hold_gives (hold_both hold_any (hold_opened (opens k.Colon refl) hold_formula)) (λ p h. h.1)

  hold_some_params : Tells (some_params bytes) (Given Anywhere Good (AreSized IsSizedNamed))
  unfolding some_params param name
  hold_some_params = hold_gives (hold_perhaps (says_begins (hold_listed (param bytes) refl hold_param))) (λ o h. sized_list IsSizedNamed o h)

  hold_params : Tells (params bytes) (Given Anywhere Good (AreSized IsSizedNamed))
  unfolding params
  hold_params = hold_before (hold_behind hold_some_params)

  hold_body : Tells (body bytes) (Given Anywhere Good IsSizedBody)
  hold_body = says_less (nests_body bytes) (λ ts b n. record {
    holds = λ before s g. record {
      parts = n.parts before s g;
      shallow = omega (arith, n.shallow before g);
      short = omega (arith, few_tokens ts before g, n.short);
    };
  })

  hold_op : Tells (op bytes) (Given Anywhere Good IsSizedOp)
  unfolding number_of op
  hold_op =
      hold_gives (hold_behind (hold_both hold_any (hold_both hold_params (hold_both (hold_opened (opens k.Gives refl) hold_formula) hold_body))))
      (λ p h. record { params = h.1.0; gives = h.1.1.0; body = h.1.1.1 })

  hold_ops : Tells (ops bytes) (Given Anywhere Good (AreSized IsSizedOp))
  unfolding op
  hold_ops = hold_short (hold_many (says_begins hold_op)) (few_many (says_begins (filled (op bytes) refl)))

  pub hold_program : Tells (program bytes) (Given Anywhere Good IsSizedProgram)
  unfolding number_of program
  hold_program =
      hold_gives
      (hold_behind (hold_both hold_cells (hold_both (hold_before (hold_opened (opens k.Invariant refl) hold_formula)) (hold_both hold_guards (hold_before hold_ops)))))
      (λ p h. record { declarations = h.0.0; cells = h.0.1; invariant = h.1.0; guards = h.1.1.0; ops = h.1.1.1 })

-- The word at the end.

-- no token before the last is the word `end`
pub record EndsOnce {A : Type 0} (ts : List Lexeme) (v : A) : Type 0 where
  pub front : List Lexeme
  pub last : Lexeme
  pub split : ts ≡ front ++ last ∷ []
  pub none : Without class_of ends front

ends_behind : {A B : Type 0} {r : RuleOf A} {s : RuleOf B} → Tells r (Lacks class_of ends) → Tells s EndsOnce → Tells (both r s) EndsOnce
ends_behind p q = says_both p q (λ xs ys v a b. record {
  front = xs ++ b.front;
  last = b.last;
  split = ap (λ z. xs ++ z) b.split ∙ sym (append_assoc xs b.front (b.last ∷ []));
  none = without_both class_of ends xs b.front a.none b.none;
})

ends_gives : {A B : Type 0} {r : RuleOf A} {f : A → B} → Tells r EndsOnce → Tells (gives f r) EndsOnce
ends_gives p = says_gives p (λ ts v a. record { front = a.front; last = a.last; split = a.split; none = a.none })

ends_word : Tells (word k.End) EndsOnce
ends_word = says_token (λ t h. record { front = []; last = t; split = refl; none = tt })

module _ (bytes : List ℕ) where
  lacks_cells : Tells (cells bytes) (Lacks class_of ends)
  unfolding number_of cell set_cell record_cell field flag_field whole_kind int bit name
  lacks_cells = lacks ends (cells bytes) refl

  lacks_guards : Tells (guards bytes) (Lacks class_of ends)
  unfolding number_of guard formula conjunction name
  lacks_guards = lacks ends (guards bytes) refl

  lacks_ops : Tells (ops bytes) (Lacks class_of ends)
  unfolding number_of op params some_params param formula conjunction body plain query release binding issue atom change term first_product next_product product multiple times_value value size_value sized plain_value dotted outcome_value path member name
  lacks_ops = lacks ends (ops bytes) refl

  pub program_ends : Tells (program bytes) EndsOnce
  unfolding number_of program formula conjunction
  program_ends =
      ends_gives (ends_gives (ends_behind (lacks ends _ refl) (ends_behind lacks_cells (ends_behind (lacks ends _ refl) (ends_behind lacks_guards (ends_gives (ends_behind lacks_ops ends_word)))))))

-- Formulas.
use Rattle.std.proofs.Common.{ℕ, List, [], ◌∷◌}
use Rattle.std.specs.Prelude.{fold}
use Rattle.std.specs.List.{AllByRecursion}
use Rattle.carol_grammar.proofs.Says.{says_either, says_begins, says_deeper}
use Rattle.carol_grammar.proofs.Given.{hold_any, hold_gives, hold_both, hold_many, hold_behind, hold_before}
use Rattle.carol_syntax.specs.Formulas.{FormulaTree, And, Or}
use Rattle.carol_syntax.specs.Shape.{IsFormula}
use Rattle.carol_grammar.specs.Rules.{literal, comparison, atom_literal, more_literals, conjunction, more_conjunctions, formula, denial, nested_literal}
use Rattle.carol_parse.proofs.Holds.{Holds}
use Rattle.carol_parse.proofs.Terms.{hold_term}

-- what two formulas make that are joined so is one
folded : (join : FormulaTree → FormulaTree → FormulaTree)
    → ((f g : FormulaTree) → IsFormula f → IsFormula g → IsFormula (join f g)) → (f : FormulaTree) (gs : List FormulaTree)
    → IsFormula f → AllByRecursion IsFormula gs → IsFormula (fold join f gs)
folded join joins f [] h all = h
folded join joins f (g ∷ gs) h all = folded join joins (join f g) gs (joins f g h all.0) all.1

module _ {bytes : List ℕ} where
  hold_comparison : Holds bytes (comparison bytes) IsFormula
  unfolding comparison
  hold_comparison = hold_gives (hold_both hold_term (hold_both hold_any hold_term)) (λ p h. (h.0, h.1.1))

  pub hold_atom_literal : Holds bytes (atom_literal bytes) IsFormula
  unfolding atom_literal
  hold_atom_literal = says_either (hold_gives hold_any (λ l h. tt)) (says_either (hold_gives hold_any (λ l h. tt)) hold_comparison)

  hold_literals : Holds bytes more_literals (AllByRecursion IsFormula)
  hold_literals = hold_many (hold_behind (says_deeper literal))

  hold_conjunction : Holds bytes conjunction IsFormula
  unfolding conjunction
  hold_conjunction =
      hold_gives (hold_both (says_deeper literal) hold_literals) (λ p h. folded And (λ f g a b. (a, b)) p.0 p.1 h.0 h.1)

  hold_conjunctions : Holds bytes more_conjunctions (AllByRecursion IsFormula)
  hold_conjunctions = hold_many (hold_behind hold_conjunction)

  pub hold_formula : Holds bytes formula IsFormula
  unfolding formula
  hold_formula = hold_gives (hold_both hold_conjunction hold_conjunctions) (λ p h. folded Or (λ f g a b. (a, b)) p.0 p.1 h.0 h.1)

  hold_denial : Holds bytes denial IsFormula
  unfolding denial
  hold_denial = hold_gives (hold_behind (says_deeper literal)) (λ f h. h)

  pub hold_nested : Holds bytes nested_literal IsFormula
  unfolding nested_literal
  hold_nested = says_either (says_begins hold_denial) (hold_before (hold_behind hold_formula))

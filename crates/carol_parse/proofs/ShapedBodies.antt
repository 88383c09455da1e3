-- Statements and bodies.
use Rattle.std.proofs.Common.{ℕ, List}
use Rattle.std.specs.List.{AllByRecursion}
use Rattle.carol_grammar.proofs.Says.{says_either, says_begins, says_deeper}
use Rattle.carol_grammar.proofs.Given.{hold_any, hold_gives, hold_both, hold_many, hold_behind, hold_before}
use Rattle.carol_syntax.specs.Shape.{IsChange, IsAtom, IsStatement, IsBody}
use Rattle.carol_grammar.specs.Rules.{ending, change, atom, query, release, binding, issue, plain, plains, body, answer, choice}
use Rattle.carol_parse.proofs.Holds.{Fits, Holds, hold_listed}
use Rattle.carol_parse.proofs.Terminals.{hold_name}
use Rattle.carol_parse.proofs.Terms.{hold_path, hold_term}
use Rattle.carol_parse.proofs.Formulas.{hold_formula}

module _ {bytes : List ℕ} where
  hold_change : Holds bytes (change bytes) IsChange
  unfolding change
  hold_change =
      says_either (hold_gives (hold_behind hold_term) (λ t h. h))
      (says_either (hold_gives (hold_behind hold_term) (λ t h. h))
      (says_either (hold_gives (hold_behind hold_term) (λ t h. h)) (hold_gives hold_any (λ l h. tt))))

  hold_atom : Holds bytes (atom bytes) IsAtom
  unfolding atom
  hold_atom = hold_gives (hold_both hold_path hold_change) (λ p h. h)

  hold_query : Holds bytes (query bytes) IsStatement
  unfolding query
  hold_query = hold_gives (hold_behind (hold_both hold_name (hold_before (hold_behind hold_name)))) (λ p h. h)

  hold_release : Holds bytes release IsStatement
  unfolding release
  hold_release = hold_gives hold_any (λ p h. tt)

  hold_binding : Holds bytes (binding bytes) IsStatement
  unfolding binding
  hold_binding = hold_gives (hold_behind (hold_both hold_name (hold_before (hold_behind hold_term)))) (λ p h. h)

  hold_issue : Holds bytes (issue bytes) IsStatement
  unfolding issue
  hold_issue = hold_gives (hold_behind (hold_before (hold_listed hold_atom))) (λ p h. h)

  hold_statement : Holds bytes (plain bytes) IsStatement
  unfolding plain
  hold_statement =
      says_either (says_begins hold_query)
      (says_either (says_begins hold_release) (says_either (says_begins hold_binding) hold_issue))

  hold_statements : Holds bytes (plains bytes) (AllByRecursion IsStatement)
  hold_statements = hold_many (says_begins hold_statement)

  pub hold_body : Holds bytes (body bytes) IsBody
  unfolding body
  hold_body =
      hold_gives (hold_behind (hold_both hold_statements (hold_before (says_deeper ending)))) (λ p h. h.1 p.0 h.0)

  pub hold_answer : Holds bytes (answer bytes) (Fits ending)
  unfolding answer
  hold_answer = hold_gives (hold_behind (hold_before hold_term)) (λ t h plain all. (all, h))

  pub hold_choice : Holds bytes (choice bytes) (Fits ending)
  unfolding choice
  hold_choice =
      hold_gives (hold_behind (hold_both hold_formula (hold_both hold_body (hold_behind hold_body))))
      (λ p h plain all. (all, h.0, h.1.0, h.1.1))

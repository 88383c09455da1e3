-- Statements and bodies.
use Rattle.std.proofs.Common.{ℕ, List, ◌∷◌, refl}
use Rattle.std.specs.Prelude.{map}
use Rattle.std.specs.List.{AllByRecursion}
use Rattle.carol_grammar.specs.Rule.Rule.{deeper}
use Rattle.carol_syntax.specs.declared.bodies.Change.{Change}
use Rattle.carol_syntax.specs.declared.bodies.Change.TheVariants as change_of
use Rattle.carol_syntax.specs.declared.bodies.AtomDecl.{AtomDecl}
use Rattle.carol_syntax.specs.declared.bodies.Statement.{Statement}
use Rattle.carol_syntax.specs.declared.bodies.Statement.TheVariants as statement_of
use Rattle.carol_syntax.specs.Bodies.{BodyTree, Return, If}
use Rattle.carol_syntax.specs.Unplaced.{unplaced_change, unplaced_atom, unplaced_statement, unplaced_body}
use Rattle.carol_syntax.specs.Shape.{IsChange, IsAtom, IsStatement, IsBody, AreSome}
use Rattle.carol_grammar.specs.Rules.{ending, change, atom, query, release, binding, issue, plain, plain_words, plains, body, answer, choice, listed}
use Rattle.carol_grammar.specs.Rule.Rule.{begins}
use Rattle.carol_print.specs.Pieces.{Piece}
use Rattle.carol_print.specs.Canonical as text
use Rattle.carol_print.proofs.Reached.{Same, Reaches, onto, onto-append, reach_word, reach_gives, reach_both, reach_left, reach_right, reach_begins, reach_deeper, reach_behind, reach_before}
use Rattle.carol_print.proofs.Terminals.{reach_name}
use Rattle.carol_print.proofs.ReadLists.{reach_concat, reach_listed}
use Rattle.carol_print.proofs.ReadTerms.{reach_path, reach_term}
use Rattle.carol_print.proofs.ReadFormulas.{reach_formula}

-- with statements like these before it, the end makes a body like this one
abbrev ends_as : List Statement → BodyTree → (List Statement → BodyTree) → Type 0
ends_as xs b end = (ys : List Statement) → Same (map unplaced_statement) xs ys → Same unplaced_body b (end ys)

module _ {bytes : List ℕ} where
  reach_change : (c : Change) {us : List Piece} → IsChange c
      → Reaches bytes (change bytes) (onto (text.change c) us) us (Same unplaced_change c)
  unfolding change
  reach_change (change_of.Add t) h = reach_left (reach_gives (reach_behind refl (reach_term t h)) (λ y e. cc))
  reach_change (change_of.Take t) h = reach_right (reach_left (reach_gives (reach_behind refl (reach_term t h)) (λ y e. cc)))
  reach_change (change_of.Raise t) h = reach_right (reach_right (reach_left (reach_gives (reach_behind refl (reach_term t h)) (λ y e. cc))))
  reach_change change_of.Set h = reach_right (reach_right (reach_right (reach_gives (reach_word refl) (λ l e. refl))))

  reach_atom : (a : AtomDecl) {us : List Piece} → IsAtom a → Reaches bytes (atom bytes) (onto (text.atom a) us) us (Same unplaced_atom a)
  unfolding atom
  reach_atom a h = simp onto-append (reach_gives (reach_both (reach_path a.path.parts h.0.0 h.0.1) (reach_change a.change h.1)) (λ y e. cc))

  reach_atoms : (xs : List AtomDecl) {us : List Piece} → AreSome IsAtom xs
      → Reaches bytes (listed (atom bytes)) (onto (text.with_commas (map text.atom xs)) us) us (Same (map unplaced_atom) xs)
  reach_atoms = reach_listed (atom bytes) text.atom IsAtom unplaced_atom (λ a us h. reach_atom a h)

  reach_statement : (s : Statement) {us : List Piece} → IsStatement s
      → Reaches bytes (plain bytes) (onto (text.statement s) us) us (Same unplaced_statement s)
  unfolding plain query release binding issue
  reach_statement (statement_of.Query n g) h =
      reach_left (reach_begins (reach_gives (reach_behind refl
      (reach_both (reach_name n) (reach_before refl (reach_behind refl (reach_name g))))) (λ y e. cc)))
  reach_statement statement_of.Release h =
      reach_right (reach_left (reach_begins (reach_gives (reach_both (reach_word refl) (reach_word refl)) (λ y e. refl))))
  reach_statement (statement_of.Let n t) h =
      simp onto-append (reach_right (reach_right (reach_left (reach_begins
      (reach_gives (reach_behind refl (reach_both (reach_name n) (reach_before refl (reach_behind refl (reach_term t h.1)))))
      (λ y e. cc))))))
  reach_statement (statement_of.Issue xs) h =
      simp onto-append (reach_right (reach_right (reach_right
      (reach_gives (reach_behind refl (reach_before refl (reach_atoms xs h))) (λ y e. cc)))))

  reach_plains : (xs : List Statement) {us : List Piece} → AllByRecursion IsStatement xs
      → Reaches bytes (plains bytes) (onto (text.concat (map text.statement xs)) us) us (Same (map unplaced_statement) xs)
  reach_plains =
      reach_concat (begins plain_words (plain bytes)) text.statement IsStatement unplaced_statement
      (λ s us h. reach_begins (reach_statement s h))

  answer_of : {ts us : List Piece} {P : (List Statement → BodyTree) → Type 0} → Reaches bytes (answer bytes) ts us P
      → Reaches bytes (deeper ending) ts us P
  answer_of p = reach_deeper {v = ending} (reach_right p)

  choice_of : {ts us : List Piece} {P : (List Statement → BodyTree) → Type 0} → Reaches bytes (choice bytes) ts us P
      → Reaches bytes (deeper ending) ts us P
  choice_of p = reach_deeper {v = ending} (reach_left (reach_begins p))

  pub reach_body : (b : BodyTree) {us : List Piece} → IsBody b
      → Reaches bytes (body bytes) (text.opening_brace ∷ onto (text.inside b) (text.closing_brace ∷ us)) us (Same unplaced_body b)
  unfolding body answer choice
  reach_body (Return xs t) h =
      simp onto-append (reach_gives (reach_behind refl (reach_both (reach_plains xs h.0)
      (reach_before refl (answer_of (reach_gives {Q = ends_as xs (Return xs t)} (reach_behind refl (reach_before refl (reach_term t h.1)))
      (λ y e ys es. cc)))))) (λ y e. e.1 y.0 e.0))
  reach_body (If xs test first second) h =
      simp onto-append (reach_gives (reach_behind refl (reach_both (reach_plains xs h.0)
      (reach_before refl (choice_of (reach_gives {Q = ends_as xs (If xs test first second)}
      (reach_behind refl (reach_both (reach_formula test h.1)
      (reach_both (reach_body first h.2) (reach_behind refl (reach_body second h.3))))) (λ y e ys es. cc)))))) (λ y e. e.1 y.0 e.0))

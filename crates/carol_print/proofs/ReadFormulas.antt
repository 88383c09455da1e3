-- Formulas.
use Rattle.std.proofs.Common.{◌≡◌, ℕ, Bool, true, false, ◌||◌, List, [], ◌∷◌, refl, sym, subst}
use Rattle.std.specs.Prelude.{fold}
use Rattle.carol_grammar.specs.Rule.Rule.{deeper}
use Rattle.carol_syntax.specs.declared.formulas.TermDecl.{TermDecl}
use Rattle.carol_syntax.specs.declared.formulas.Sign.{Sign}
use Rattle.carol_syntax.specs.declared.formulas.Sign.TheVariants as sign_of
use Rattle.carol_syntax.specs.Formulas.{FormulaTree, True, False, Not, And, Or, Compare}
use Rattle.carol_syntax.specs.Unplaced.{unplaced_formula}
use Rattle.carol_syntax.specs.Shape.{IsTerm, IsFormula}
use Rattle.carol_grammar.specs.Rules.{literal, sign, comparison, atom_literal, conjunction, formula, denial, nested_literal}
use Rattle.carol_print.specs.Pieces.{Piece}
use Rattle.carol_print.specs.Canonical as text
use Rattle.carol_print.proofs.Reached.{Same, Reaches, onto, onto-append, reach_along, reach_word, reach_gives, reach_both, reach_left, reach_right, reach_begins, reach_deeper, reach_behind, reach_before, reach_end, reach_folded}
use Rattle.carol_print.proofs.ReadTerms.{reach_term}

-- The text of a formula is one, and where it is no `or`, a conjunction, and where it is no `and`
-- either, a literal.
record Spelled (bytes : List ℕ) (f : FormulaTree) : Type 0 where
  whole : (us : List Piece) → Reaches bytes formula (onto (text.formula f) us) us (Same unplaced_formula f)
  joined : text.is_either f ≡ false → (us : List Piece) → Reaches bytes conjunction (onto (text.formula f) us) us (Same unplaced_formula f)
  single : (text.is_either f || text.is_both f) ≡ false → (us : List Piece)
      → Reaches bytes (deeper literal) (onto (text.formula f) us) us (Same unplaced_formula f)

onto_comparison : (left : TermDecl) (s : Sign) (right : TermDecl) (us : List Piece)
    → onto (text.formula (Compare left s right)) us ≡ onto (text.term left) (text.sign s ∷ onto (text.term right) us)
onto_comparison left sign_of.AtMost right us = onto-append (text.term left) _ us
onto_comparison left sign_of.Below right us = onto-append (text.term left) _ us
onto_comparison left sign_of.AtLeast right us = onto-append (text.term left) _ us
onto_comparison left sign_of.Above right us = onto-append (text.term left) _ us
onto_comparison left sign_of.Same right us = onto-append (text.term left) _ us
onto_comparison left sign_of.Differs right us = onto-append (text.term left) _ us

module _ {bytes : List ℕ} where
  joined_of : {ts us : List Piece} {P : FormulaTree → Type 0} → Reaches bytes (deeper literal) ts us P → Reaches bytes conjunction ts us P
  unfolding conjunction
  joined_of {P = P} p =
      reach_gives (reach_both p (reach_end {Q = λ ys. ys ≡ []} refl)) (λ y e. subst (λ ys. P (fold And y.0 ys)) (sym e.1) e.0)

  whole_of : {ts us : List Piece} {P : FormulaTree → Type 0} → Reaches bytes conjunction ts us P → Reaches bytes formula ts us P
  unfolding formula
  whole_of {P = P} p =
      reach_gives (reach_both p (reach_end {Q = λ ys. ys ≡ []} refl)) (λ y e. subst (λ ys. P (fold Or y.0 ys)) (sym e.1) e.0)

  atom_of : {ts us : List Piece} {P : FormulaTree → Type 0} → Reaches bytes (atom_literal bytes) ts us P
      → Reaches bytes (deeper literal) ts us P
  atom_of p = reach_deeper {v = literal} (reach_right p)

  nested_of : {ts us : List Piece} {P : FormulaTree → Type 0} → Reaches bytes nested_literal ts us P
      → Reaches bytes (deeper literal) ts us P
  nested_of p = reach_deeper {v = literal} (reach_left (reach_begins p))

  spelled_single : (f : FormulaTree)
      → ((us : List Piece) → Reaches bytes (deeper literal) (onto (text.formula f) us) us (Same unplaced_formula f)) → Spelled bytes f
  spelled_single f p = record { whole = λ us. whole_of (joined_of (p us)); joined = λ e us. joined_of (p us); single = λ e us. p us }

  in_parentheses : (f : FormulaTree) (us : List Piece) → Spelled bytes f
      → Reaches bytes (deeper literal) (onto (text.enclosed true (text.formula f)) us) us (Same unplaced_formula f)
  unfolding nested_literal
  in_parentheses f us p = simp onto-append (nested_of (reach_right (reach_before refl (reach_behind refl (p.whole _)))))

  enclosed_single : (f : FormulaTree) (b : Bool) (us : List Piece) → (text.is_either f || text.is_both f) ≡ b → Spelled bytes f
      → Reaches bytes (deeper literal) (onto (text.enclosed b (text.formula f)) us) us (Same unplaced_formula f)
  enclosed_single f true us e p = in_parentheses f us p
  enclosed_single f false us e p = p.single e us

  enclosed_joined : (f : FormulaTree) (b : Bool) (us : List Piece) → text.is_either f ≡ b → Spelled bytes f
      → Reaches bytes conjunction (onto (text.enclosed b (text.formula f)) us) us (Same unplaced_formula f)
  enclosed_joined f true us e p = joined_of (in_parentheses f us p)
  enclosed_joined f false us e p = p.joined e us

  reach_sign : (s : Sign) (us : List Piece) → Reaches bytes sign (text.sign s ∷ us) us (λ y. y ≡ s)
  unfolding sign
  reach_sign sign_of.AtMost us = reach_left (reach_gives (reach_word refl) (λ l e. refl))
  reach_sign sign_of.Below us = reach_right (reach_left (reach_gives (reach_word refl) (λ l e. refl)))
  reach_sign sign_of.AtLeast us = reach_right (reach_right (reach_left (reach_gives (reach_word refl) (λ l e. refl))))
  reach_sign sign_of.Above us = reach_right (reach_right (reach_right (reach_left (reach_gives (reach_word refl) (λ l e. refl)))))
  reach_sign sign_of.Same us =
      reach_right (reach_right (reach_right (reach_right (reach_left (reach_gives (reach_word refl) (λ l e. refl))))))
  reach_sign sign_of.Differs us =
      reach_right (reach_right (reach_right (reach_right (reach_right (reach_gives (reach_word refl) (λ l e. refl))))))

  reach_comparison : (left : TermDecl) (s : Sign) (right : TermDecl) {us : List Piece} → IsTerm left → IsTerm right
      → Reaches bytes (comparison bytes) (onto (text.formula (Compare left s right)) us) us
      (Same unplaced_formula (Compare left s right))
  unfolding comparison
  reach_comparison left s right l r =
      reach_along (onto_comparison left s right _) (reach_gives
      (reach_both (reach_term left l) (reach_both (reach_sign s _) (reach_term right r))) (λ y e. cc))

  both_joined : (f g : FormulaTree) (us : List Piece) → Spelled bytes f → Spelled bytes g
      → Reaches bytes conjunction (onto (text.formula (And f g)) us) us (Same unplaced_formula (And f g))
  unfolding conjunction
  both_joined f g us p q =
      simp onto-append (reach_folded (enclosed_joined f (text.is_either f) _ refl p)
      (reach_behind refl (enclosed_single g (text.is_either g || text.is_both g) us refl q)) (λ a b e h. cc))

  either_whole : (f g : FormulaTree) (us : List Piece) → Spelled bytes f → Spelled bytes g
      → Reaches bytes formula (onto (text.formula (Or f g)) us) us (Same unplaced_formula (Or f g))
  unfolding formula
  either_whole f g us p q =
      simp onto-append (reach_folded (p.whole _) (reach_behind refl (enclosed_joined g (text.is_either g) us refl q)) (λ a b e h. cc))

  spelled_joined : (f : FormulaTree) → ((text.is_either f || text.is_both f) ≡ false → ⊥)
      → ((us : List Piece) → Reaches bytes conjunction (onto (text.formula f) us) us (Same unplaced_formula f)) → Spelled bytes f
  spelled_joined f no_literal p = record { whole = λ us. whole_of (p us); joined = λ e us. p us; single = λ e us. absurd (no_literal e) }

  spelled : (f : FormulaTree) → IsFormula f → Spelled bytes f
  unfolding atom_literal nested_literal denial
  spelled True h = spelled_single True (λ us. atom_of (reach_left (reach_gives (reach_word refl) (λ l e. refl))))
  spelled False h = spelled_single False (λ us. atom_of (reach_right (reach_left (reach_gives (reach_word refl) (λ l e. refl)))))
  spelled (Not f) h =
      spelled_single (Not f) (λ us. nested_of (reach_left (reach_begins
      (reach_gives (reach_behind refl (enclosed_single f (text.is_either f || text.is_both f) us refl (spelled f h))) (λ y e. cc)))))
  spelled (Compare left s right) h =
      spelled_single (Compare left s right) (λ us. atom_of (reach_right (reach_right (reach_comparison left s right h.0 h.1))))
  spelled (And f g) h = spelled_joined (And f g) (λ e. cc) (λ us. both_joined f g us (spelled f h.0) (spelled g h.1))
  spelled (Or f g) h = record {
    whole = λ us. either_whole f g us (spelled f h.0) (spelled g h.1);
    joined = λ e us. absurd cc;
    single = λ e us. absurd cc;
  }

  pub reach_formula : (f : FormulaTree) {us : List Piece} → IsFormula f
      → Reaches bytes formula (onto (text.formula f) us) us (Same unplaced_formula f)
  reach_formula f h = (spelled f h).whole _

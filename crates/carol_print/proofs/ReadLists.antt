-- Lists of texts: one behind the other, and with commas between them.
use Rattle.std.proofs.Common.{ℕ, ◌<◌, List, [], ◌∷◌, refl, arith}
use Rattle.std.specs.Prelude.{map}
use Rattle.std.specs.List.{AllByRecursion}
use Rattle.carol_grammar.specs.Rule.Rule.{many}
use Rattle.carol_syntax.specs.Shape.{AreSome}
use Rattle.carol_grammar.specs.Rules.{RuleOf, and_more, listed}
use Rattle.carol_print.specs.Pieces.{Piece}
use Rattle.carol_print.specs.Canonical.{Pieces, after_commas, with_commas, concat}
use Rattle.carol_print.proofs.Reached.{Same, Reaches, onto, onto-append, reach_gives, reach_both, reach_behind, reach_end, reach_more}

-- each text of an item is reached by the rule, with the same view of it
module _ {bytes : List ℕ} {A B : Type 0} (r : RuleOf A) (item : A → Pieces) (Is : A → Type 0) (view : A → B)
    (reach : (x : A) (us : List Piece) → Is x → Reaches bytes r (onto (item x) us) us (Same view x)) where
  pub reach_concat : (xs : List A) {us : List Piece} → AllByRecursion Is xs
      → Reaches bytes (many r) (onto (concat (map item xs)) us) us (Same (map view) xs)
  reach_concat [] h = reach_end refl
  reach_concat (x ∷ xs) h = simp onto-append (reach_more (reach x _ h.0) (reach_concat xs h.1) (λ y ys e es. cc))

  reach_after_commas : (xs : List A) {us : List Piece} → AllByRecursion Is xs
      → Reaches bytes (and_more r) (onto (after_commas (map item xs)) us) us (Same (map view) xs)
  reach_after_commas [] h = reach_end refl
  reach_after_commas (x ∷ xs) h =
      simp onto-append (reach_more (reach_behind refl (reach x _ h.0)) (reach_after_commas xs h.1) (λ y ys e es. cc))

  pub reach_listed : (xs : List A) {us : List Piece} → AreSome Is xs
      → Reaches bytes (listed r) (onto (with_commas (map item xs)) us) us (Same (map view) xs)
  reach_listed [] h = let no_items : 0 < 0 = h.0 in absurd (omega arith)
  reach_listed (x ∷ xs) h = simp onto-append (reach_gives (reach_both (reach x _ h.1.0) (reach_after_commas xs h.1.1)) (λ y e. cc))

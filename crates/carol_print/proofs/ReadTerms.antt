-- Paths, values, products and terms.
use Rattle.std.proofs.Common.{◌≡◌, ℕ, ◌<◌, ◌≤◌, ◌⊎◌, inl, inr, Bool, true, false, List, [], ◌∷◌, ◌++◌, length, Option, refl, sym, ◌∙◌, ap, arith}
use Rattle.std.specs.Prelude.{map, option_map, option_to_list, Some, None, IfSome, IsSome}
use Rattle.std.specs.List.{AllByRecursion}
use Rattle.carol_syntax.specs.declared.places.Ident.{Ident}
use Rattle.carol_syntax.specs.declared.formulas.ValueKind.{ValueKind}
use Rattle.carol_syntax.specs.declared.formulas.ValueKind.TheVariants as way
use Rattle.carol_syntax.specs.declared.formulas.ValueDecl.{ValueDecl}
use Rattle.carol_syntax.specs.declared.formulas.ProductDecl.{ProductDecl}
use Rattle.carol_syntax.specs.declared.formulas.TermDecl.{TermDecl}
use Rattle.carol_syntax.specs.Unplaced.{nowhere, unplaced_name, unplaced_value, unplaced_product, unplaced_term}
use Rattle.carol_syntax.specs.Shape.{IsLiteral, HasParts, IsValue, IsProduct, IsTerm, AreSome}
use Rattle.carol_grammar.specs.Rules.{member, path, outcome_value, dotted, names_of, plain_value, sized, size_value, value, times_value, multiple, product, signed, next_product, first_product, more_products, term}
use Rattle.carol_print.specs.Pieces.{Piece, Space}
use Rattle.carol_print.specs.Canonical as text
use Rattle.carol_print.proofs.Reached.{Same, Reaches, onto, onto-append, reach_with, reach_word, reach_gives, reach_both, reach_left, reach_right, reach_begins, reach_behind, reach_before, reach_end, reach_more, reach_some, reach_none}
use Rattle.carol_print.proofs.Terminals.{reach_name, reach_number}

abbrev same_names : List Ident → List Ident → Type 0
same_names xs ys = map unplaced_name xs ≡ map unplaced_name ys

abbrev is_value : ValueKind → List Ident → ValueDecl → Type 0
is_value kind parts y = unplaced_value y ≡ record { span = nowhere; kind = kind; parts = map unplaced_name parts }

signed_again : (p : ProductDecl) {minus : Bool} → p.minus ≡ minus → signed minus (unplaced_product p) ≡ unplaced_product p
signed_again p m = ap (λ b. signed b (unplaced_product p)) (sym m)

module _ {bytes : List ℕ} where
  reach_member : (parts : List Ident) {us : List Piece} → length parts ≤ 1
      → Reaches bytes (member bytes) (onto (text.after_dots parts) us) us (λ o. same_names (option_to_list o) parts)
  unfolding member
  reach_member [] h = reach_none refl
  reach_member (i ∷ []) h = reach_some (reach_behind refl (reach_name i)) (λ v e. cc)
  reach_member (i ∷ j ∷ parts) h = absurd (omega arith)

  pub reach_path : (parts : List Ident) {us : List Piece} → 1 ≤ length parts → length parts ≤ 2
      → Reaches bytes (path bytes) (onto (text.path parts) us) us (λ p. same_names p.parts parts)
  unfolding path
  reach_path [] l h = absurd (omega arith)
  reach_path (i ∷ parts) l h = reach_gives (reach_both (reach_name i) (reach_member parts (omega arith))) (λ p e. cc)

  reach_dotted : (parts : List Ident) {us : List Piece} → length parts ≤ 2
      → Reaches bytes (dotted bytes) (onto (text.after_dots parts) us) us (λ o. same_names (names_of o) parts)
  unfolding dotted
  reach_dotted [] h = reach_none refl
  reach_dotted (i ∷ parts) h = reach_some (reach_behind refl (reach_path (i ∷ parts) (omega arith) h)) (λ v e. e)

  reach_plain : (parts : List Ident) {us : List Piece} → 1 ≤ length parts → length parts ≤ 3
      → Reaches bytes (plain_value bytes) (onto (text.path parts) us) us
      (is_value way.Plain parts)
  unfolding plain_value
  reach_plain [] l h = absurd (omega arith)
  reach_plain (i ∷ parts) l h = reach_gives (reach_both (reach_name i) (reach_dotted parts (omega arith))) (λ p e. cc)

  reach_size : (kind : ValueKind) (parts : List Ident) (ps : List Piece) {us : List Piece}
      → Reaches bytes (sized bytes) (onto ps (text.closing ∷ us)) (text.closing ∷ us) (λ q. (q.0 ≡ kind) × same_names q.1.parts parts)
      → Reaches bytes (value bytes) (onto (text.sized ps) us) us (is_value kind parts)
  unfolding value size_value
  reach_size kind parts ps p =
      simp onto-append (reach_right (reach_right (reach_right
      (reach_left (reach_begins (reach_gives (reach_both (reach_word refl) (reach_before refl (reach_behind refl p))) (λ y e. cc)))))))

  value_as : (kind : ValueKind) (parts : List Ident) {us : List Piece} → HasParts kind (length parts)
      → Reaches bytes (value bytes) (onto (text.value_as kind parts) us) us (is_value kind parts)
  unfolding value outcome_value sized
  value_as way.Outcome [] h = reach_left (reach_begins (reach_gives (reach_word refl) (λ l h. refl)))
  value_as way.Outcome (i ∷ parts) h = absurd (omega arith)
  value_as way.Plain parts h = reach_right (reach_right (reach_right (reach_right (reach_plain parts h.0 h.1))))
  value_as way.Here parts h =
      reach_right (reach_left (reach_gives (reach_both (reach_word refl) (reach_behind refl (reach_path parts h.0 h.1))) (λ p e. cc)))
  value_as way.There parts h =
      reach_right (reach_right (reach_left (reach_gives (reach_both (reach_word refl) (reach_behind refl (reach_path parts h.0 h.1)))
      (λ p e. cc))))
  value_as way.Size parts h =
      reach_size way.Size parts (text.path parts) (reach_right (reach_right (reach_gives (reach_path parts h.0 h.1) (λ p e. (refl, e)))))
  value_as way.SizeHere parts h =
      reach_size way.SizeHere parts (text.here ∷ text.dot ∷ text.path parts)
      (reach_left (reach_gives (reach_behind refl (reach_behind refl (reach_path parts h.0 h.1))) (λ p e. (refl, e))))
  value_as way.SizeThere parts h =
      reach_size way.SizeThere parts (text.there ∷ text.dot ∷ text.path parts)
      (reach_right (reach_left (reach_gives (reach_behind refl (reach_behind refl (reach_path parts h.0 h.1))) (λ p e. (refl, e)))))

  reach_value : (v : ValueDecl) {us : List Piece} → IsValue v
      → Reaches bytes (value bytes) (onto (text.value v) us) us (Same unplaced_value v)
  reach_value v h = value_as v.kind v.parts h.0

  product_as : (factor : Option ℕ) (v : Option ValueDecl) {us : List Piece} → IfSome factor IsLiteral → IfSome v IsValue
      → IsSome factor ⊎ IsSome v
      → Reaches bytes (product bytes) (onto (text.product_of factor v) us) us
      (λ q. unplaced_product q.1 ≡ record { minus = false; factor = factor; value = option_map unplaced_value v })
  unfolding product multiple times_value
  product_as None None f h (inl e) = cc
  product_as None None f h (inr e) = cc
  product_as None (Some v) f h s = reach_right (reach_gives (reach_value v h) (λ y e. cc))
  product_as (Some n) None f h s =
      reach_left (reach_begins (reach_gives (reach_both (reach_number n f) (reach_none {Q = λ o. o ≡ None} refl)) (λ p e. cc)))
  product_as (Some n) (Some v) f h s =
      reach_left (reach_begins (reach_gives (reach_both (reach_number n f)
      (reach_some {Q = λ o. option_map unplaced_value o ≡ Some (unplaced_value v)} (reach_behind refl (reach_value v h)) (λ y e. cc)))
      (λ p e. cc)))

  reach_product : (p : ProductDecl) {us : List Piece} → IsProduct p
      → Reaches bytes (product bytes) (onto (text.product p) us) us (λ q. unplaced_product q.1 ≡ signed false (unplaced_product p))
  reach_product p h = product_as p.factor p.value h.0 h.1 h.2

  first_as : (minus : Bool) (p : ProductDecl) {us : List Piece} → p.minus ≡ minus → IsProduct p
      → Reaches bytes (first_product bytes) (onto (text.first_sign minus) (onto (text.product p) us)) us
      (λ q. unplaced_product q.1 ≡ unplaced_product p)
  unfolding first_product
  first_as true p m h =
      reach_left (reach_gives (reach_both (reach_word refl) (reach_product p h)) (λ q e. ap (signed true) e.1 ∙ signed_again p m))
  first_as false p m h = reach_right (reach_with (reach_product p h) (λ q e. e ∙ signed_again p m))

  next_as : (minus : Bool) (p : ProductDecl) (ps : List ProductDecl) {us : List Piece} → p.minus ≡ minus → IsProduct p
      → Reaches bytes (more_products bytes) (onto (text.more_products ps) us) us (Same (map unplaced_product) ps)
      → Reaches bytes (more_products bytes) (onto (Space ∷ text.added_sign minus ∷ Space ∷ (text.product p ++ text.more_products ps)) us) us
      (Same (map unplaced_product) (p ∷ ps))
  unfolding next_product
  next_as true p ps m h more =
      simp onto-append (reach_more (reach_begins (reach_right
      (reach_gives {Q = λ q. unplaced_product q ≡ unplaced_product p} (reach_behind refl (reach_product p h))
      (λ q e. ap (signed true) e ∙ signed_again p m)))) more (λ y ys e es. cc))
  next_as false p ps m h more =
      simp onto-append (reach_more (reach_begins (reach_left (reach_gives {Q = λ q. unplaced_product q ≡ unplaced_product p}
      (reach_behind refl (reach_product p h)) (λ q e. ap (signed false) e ∙ signed_again p m)))) more (λ y ys e es. cc))

  reach_products : (ps : List ProductDecl) {us : List Piece} → AllByRecursion IsProduct ps
      → Reaches bytes (more_products bytes) (onto (text.more_products ps) us) us (Same (map unplaced_product) ps)
  reach_products [] h = reach_end refl
  reach_products (p ∷ ps) h = next_as p.minus p ps refl h.0 (reach_products ps h.1)

  sum_as : (ps : List ProductDecl) {us : List Piece} → AreSome IsProduct ps
      → Reaches bytes (term bytes) (onto (text.sum_of ps) us) us
      (λ y. unplaced_term y ≡ record { span = nowhere; products = map unplaced_product ps })
  unfolding term
  sum_as [] h = let no_items : 0 < 0 = h.0 in absurd (omega arith)
  sum_as (p ∷ ps) h = simp onto-append (reach_gives (reach_both (first_as p.minus p refl h.1.0) (reach_products ps h.1.1)) (λ y e. cc))

  pub reach_term : (t : TermDecl) {us : List Piece} → IsTerm t
      → Reaches bytes (term bytes) (onto (text.term t) us) us (Same unplaced_term t)
  reach_term t h = sum_as t.products h

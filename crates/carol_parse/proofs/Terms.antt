-- Paths, values, products and terms.
use Rattle.std.proofs.Common.{ℕ, ◌≤◌, List, ◌∷◌, length, Option, refl, inl, inr, arith}
use Rattle.std.specs.Prelude.{Some, None, IfSome, option_to_list}
use Rattle.std.specs.List.{AllByRecursion}
use Rattle.carol_grammar.proofs.Says.{says_either, says_begins}
use Rattle.carol_grammar.proofs.Given.{hold_any, hold_gives, hold_both, hold_perhaps, hold_many, hold_behind, hold_before}
use Rattle.carol_syntax.specs.declared.places.Span.{Span}
use Rattle.carol_syntax.specs.declared.places.Ident.{Ident}
use Rattle.carol_syntax.specs.declared.formulas.ValueKind.{ValueKind}
use Rattle.carol_syntax.specs.declared.formulas.ValueKind.TheVariants as way
use Rattle.carol_syntax.specs.declared.bodies.PathDecl.{PathDecl}
use Rattle.carol_syntax.specs.Shape.{IsName, HasParts, IsValue, IsProduct, IsTerm, IsPath}
use Rattle.carol_syntax.specs.declared.kind.Kind.{Kind}
use Rattle.carol_syntax.specs.declared.kind.Kind.TheVariants as k
use Rattle.carol_grammar.specs.Rules.{member, path, outcome_value, names_of, dotted, plain_value, side, sized_side, sized, size_value, value, times_value, multiple, product, next_product, first_product, more_products, term}
use Rattle.carol_parse.proofs.Holds.{Holds}
use Rattle.carol_parse.proofs.Terminals.{hold_name, hold_number}

path_of : (i : Ident) (o : Option Ident) → IsName i → IfSome o IsName → IsPath (record { parts = i ∷ option_to_list o })
path_of i None h g = (omega arith, omega arith, (h, tt))
path_of i (Some j) h g = (omega arith, omega arith, (h, (g, tt)))

plain_of : (i : Ident) (o : Option PathDecl) (span : Span) → IsName i → IfSome o IsPath
    → IsValue (record { span = span; kind = way.Plain; parts = i ∷ names_of o })
plain_of i None span h g = ((omega arith, omega arith), (h, tt))
plain_of i (Some p) span h g = ((omega arith, omega arith), (h, g.2))

-- a value of this kind may have the names of a path
abbrev TakesPath : ValueKind → Type 0
TakesPath kind = (n : ℕ) → 1 ≤ n → n ≤ 2 → HasParts kind n

-- the names are those of a value of the kind
abbrev FitsKind : ValueKind × PathDecl → Type 0
FitsKind q = HasParts q.0 (length q.1.parts) × AllByRecursion IsName q.1.parts

module _ {bytes : List ℕ} where
  hold_member : Holds bytes (member bytes) (λ o. IfSome o IsName)
  unfolding member
  hold_member = hold_perhaps (hold_behind hold_name)

  pub hold_path : Holds bytes (path bytes) IsPath
  unfolding path
  hold_path = hold_gives (hold_both hold_name hold_member) (λ p h. path_of p.0 p.1 h.0 h.1)

  hold_outcome : Holds bytes outcome_value IsValue
  unfolding outcome_value
  hold_outcome = hold_gives hold_any (λ l h. (refl, tt))

  hold_dotted : Holds bytes (dotted bytes) (λ o. IfSome o IsPath)
  unfolding dotted
  hold_dotted = hold_perhaps (hold_behind hold_path)

  hold_plain : Holds bytes (plain_value bytes) IsValue
  unfolding plain_value
  hold_plain = hold_gives (hold_both hold_name hold_dotted) (λ p h. plain_of p.0 p.1 p.0.span h.0 h.1)

  hold_side : (kind : Kind) (form : ValueKind) → TakesPath form → Holds bytes (side kind form bytes) IsValue
  hold_side kind form takes =
      hold_gives (hold_both hold_any (hold_behind hold_path)) (λ p h. (takes (length p.1.parts) h.1.0 h.1.1, h.1.2))

  hold_sized_side : (kind : Kind) (form : ValueKind) → TakesPath form → Holds bytes (sized_side kind form bytes) FitsKind
  hold_sized_side kind form takes = hold_gives (hold_behind (hold_behind hold_path)) (λ p h. (takes (length p.parts) h.0 h.1, h.2))

  hold_sized : Holds bytes (sized bytes) FitsKind
  unfolding sized
  hold_sized =
      says_either (hold_sized_side k.Here way.SizeHere (λ n l g. (l, g)))
      (says_either (hold_sized_side k.There way.SizeThere (λ n l g. (l, g))) (hold_gives hold_path (λ p h. ((h.0, h.1), h.2))))

  hold_size : Holds bytes (size_value bytes) IsValue
  unfolding size_value
  hold_size = hold_gives (hold_both hold_any (hold_before (hold_behind hold_sized))) (λ p h. h.1)

  hold_value : Holds bytes (value bytes) IsValue
  unfolding value
  hold_value =
      says_either (says_begins hold_outcome)
      (says_either (hold_side k.Here way.Here (λ n l g. (l, g)))
      (says_either (hold_side k.There way.There (λ n l g. (l, g))) (says_either (says_begins hold_size) hold_plain)))

  hold_times : Holds bytes (times_value bytes) (λ o. IfSome o IsValue)
  unfolding times_value
  hold_times = hold_perhaps (hold_behind hold_value)

  hold_multiple : Holds bytes (multiple bytes) (λ q. IsProduct q.1)
  unfolding multiple
  hold_multiple = hold_gives (hold_both hold_number hold_times) (λ p h. (h.0, h.1, inl refl))

  hold_product : Holds bytes (product bytes) (λ q. IsProduct q.1)
  unfolding product
  hold_product = says_either (says_begins hold_multiple) (hold_gives hold_value (λ v h. (tt, h, inr refl)))

  hold_next : Holds bytes (next_product bytes) IsProduct
  unfolding next_product
  hold_next = says_either (hold_gives (hold_behind hold_product) (λ q h. h)) (hold_gives (hold_behind hold_product) (λ q h. h))

  hold_first : Holds bytes (first_product bytes) (λ q. IsProduct q.1)
  unfolding first_product
  hold_first = says_either (hold_gives (hold_both hold_any hold_product) (λ q h. h.1)) hold_product

  hold_products : Holds bytes (more_products bytes) (AllByRecursion IsProduct)
  hold_products = hold_many (says_begins hold_next)

  pub hold_term : Holds bytes (term bytes) IsTerm
  unfolding term
  hold_term = hold_gives (hold_both hold_first hold_products) (λ p h. (omega arith, h))

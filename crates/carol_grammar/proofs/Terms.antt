-- Each product of a term counts.
use Rattle.std.proofs.Common.{◌≡◌, ℕ, ◌≤◌, true, List, [], ◌∷◌, length, refl, arith}
use Rattle.carol_grammar.specs.Sets.{within, apart}
use Rattle.carol_grammar.proofs.Says.{says_either, says_begins}
use Rattle.carol_grammar.proofs.Given.{Given}
use Rattle.carol_syntax.specs.Size.{IsSizedTerm}
use Rattle.carol_syntax.specs.declared.formulas.ValueKind.{ValueKind}
use Rattle.carol_syntax.specs.declared.formulas.ValueKind.TheVariants as way
use Rattle.carol_syntax.specs.declared.formulas.TermDecl.{TermDecl}
use Rattle.carol_syntax.specs.declared.kind.Kind.{Kind}
use Rattle.carol_syntax.specs.declared.kind.Kind.TheVariants as k
use Rattle.carol_grammar.specs.Terminals.{number_of}
use Rattle.carol_grammar.specs.Rules.{numbers, name, member, path, outcome_value, dotted, plain_value, side, sized, size_value, value, times_value, multiple, product, next_product, first_product, more_products, term}
use Rattle.carol_grammar.proofs.Places.{Quiet, Fresh, Good, resets, openers}
use Rattle.carol_grammar.proofs.Fits.{Step, Tells}
use Rattle.carol_grammar.proofs.Steps.{total, step_both, step_many, step_gives, step_behind, step_fresh, step_counted, step_sign, step_opener, step_led, step_given}

total_one : {A : Type 0} (vs : List A) → length vs ≤ total (λ v. 1) vs
total_one [] = omega arith
total_one (v ∷ vs) = omega (arith, total_one vs)

abbrev pub products : TermDecl → ℕ
products t = length t.products

module _ (bytes : List ℕ) where
  step_side : (kind : Kind) (form : ValueKind) → within (number_of kind ∷ []) openers ≡ true → apart (number_of kind ∷ []) resets ≡ true → Tells (side kind form bytes) (Step Fresh Quiet (λ v. 1))
  unfolding number_of path member name
  step_side kind form o r = step_led (step_opener (number_of kind ∷ []) o r) _ refl

  step_outcome : Tells outcome_value (Step Fresh Quiet (λ v. 1))
  unfolding number_of outcome_value
  step_outcome = step_gives (step_opener (number_of k.Result ∷ []) refl refl) (λ l. omega arith)

  step_name : Tells (name bytes) (Step Fresh Quiet (λ v. 1))
  unfolding number_of name
  step_name = step_gives (step_opener (number_of k.Name ∷ []) refl refl) (λ l. omega arith)

  step_plain : Tells (plain_value bytes) (Step Fresh Quiet (λ v. 1))
  unfolding number_of plain_value dotted path member name
  step_plain = step_led step_name _ refl

  step_size : Tells (size_value bytes) (Step Fresh Quiet (λ v. 1))
  unfolding number_of size_value sized path member name
  step_size = step_led (step_opener (number_of k.Size ∷ []) refl refl) _ refl

  step_value : Tells (value bytes) (Step Fresh Quiet (λ v. 1))
  unfolding number_of value
  step_value =
      says_either (says_begins step_outcome)
      (says_either (step_side k.Here way.Here refl refl)
      (says_either (step_side k.There way.There refl refl) (says_either (says_begins step_size) step_plain)))

  step_multiple : Tells (multiple bytes) (Step Fresh Quiet (λ v. 1))
  unfolding number_of multiple times_value value outcome_value plain_value dotted size_value sized path member name
  step_multiple = step_led (step_fresh (step_counted numbers refl refl)) _ refl

  step_product : Tells (product bytes) (Step Fresh Quiet (λ v. 1))
  unfolding product
  step_product = says_either (says_begins step_multiple) (step_gives step_value (λ v. omega arith))

  step_next : Tells (next_product bytes) (Step Quiet Quiet (λ v. 1))
  unfolding number_of next_product
  step_next =
      says_either
      (step_gives (step_behind (step_sign (number_of k.Plus ∷ []) refl refl) step_product) (λ v. omega arith))
      (step_gives (step_behind (step_sign (number_of k.Minus ∷ []) refl refl) step_product) (λ v. omega arith))

  step_first : Tells (first_product bytes) (Step Fresh Quiet (λ v. 1))
  unfolding number_of first_product
  step_first =
      says_either (step_gives (step_both (step_fresh (step_sign (number_of k.Minus ∷ []) refl refl)) step_product) (λ v. omega arith)) step_product

  step_products : Tells (more_products bytes) (Step Quiet Quiet (total (λ v. 1)))
  step_products = step_many (says_begins step_next)

  pub step_term : Tells (term bytes) (Step Fresh Quiet products)
  unfolding term
  step_term = step_gives (step_both step_first step_products) (λ v. omega (arith, total_one v.1))

  pub hold_term : Tells (term bytes) (Given Fresh Good IsSizedTerm)
  hold_term = step_given step_term

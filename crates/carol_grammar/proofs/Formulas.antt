-- Each node of a formula counts.
use Rattle.std.proofs.Common.{◌≡◌, ℕ, ◌+◌, ◌≤◌, true, false, List, [], ◌∷◌, add-zero, refl, arith}
use Rattle.std.specs.Prelude.{fold}
use Rattle.carol_grammar.specs.Sets.{within, apart}
use Rattle.carol_grammar.specs.Rule.Rule.{gives, deeper}
use Rattle.carol_grammar.specs.Reading.{may_be_empty}
use Rattle.carol_grammar.proofs.SetLemmas.{apart_right}
use Rattle.carol_grammar.proofs.Lacks.{avoids}
use Rattle.carol_grammar.proofs.Says.{says_less, says_two, says_either, says_begins, says_deeper}
use Rattle.carol_grammar.proofs.Given.{Given}
use Rattle.carol_syntax.specs.declared.formulas.Sign.{Sign}
use Rattle.carol_syntax.specs.Formulas.{FormulaTree, True, False, And, Or}
use Rattle.carol_syntax.specs.Size.{formula_size, IsSizedFormula}
use Rattle.carol_syntax.specs.declared.kind.Kind.{Kind}
use Rattle.carol_syntax.specs.declared.kind.Kind.TheVariants as k
use Rattle.carol_grammar.specs.Terminals.{number_of, class_of}
use Rattle.carol_grammar.proofs.TokenKinds.{word_kind}
use Rattle.carol_grammar.specs.Rules.{RuleOf, literal, word, sign_word, name, member, path, outcome_value, dotted, plain_value, sized, size_value, value, times_value, multiple, product, next_product, first_product, term, sign, comparison, atom_literal, more_literals, conjunction, more_conjunctions, formula, denial, nested_literal}
use Rattle.carol_grammar.proofs.Places.{Quiet, Fresh, Good, counted, joints, push_kept, push_opening, resets}
use Rattle.carol_grammar.proofs.Fits.{Step, LiteralFits, Tells, known, lacks, filled, braces_and_ends}
use Rattle.carol_grammar.proofs.Steps.{total, step_both, step_many, step_gives, step_behind, step_before, step_fresh, step_token, step_counted, step_joint, step_silent, step_given}
use Rattle.carol_grammar.proofs.Terms.{step_term}

-- what is joined has the nodes of its parts, and one for each that joins them
folded : (join : FormulaTree → FormulaTree → FormulaTree) → ((f g : FormulaTree) → formula_size (join f g) ≡ 1 + (formula_size f + formula_size g))
    → (f : FormulaTree) (gs : List FormulaTree) → formula_size (fold join f gs) ≤ formula_size f + total (λ g. 1 + formula_size g) gs
folded join joins f [] = omega arith
folded join joins f (g ∷ gs) = omega (arith, joins f g, folded join joins (join f g) gs)

step_word : (kind : Kind) → within (number_of kind ∷ []) counted ≡ true → apart (number_of kind ∷ []) joints ≡ true → Tells (word kind) (Step Quiet Fresh (λ v. 1))
step_word kind c j = step_joint (number_of kind ∷ []) c j

step_sign_word : (kind : Kind) (s : Sign) → within (number_of kind ∷ []) counted ≡ true → apart (number_of kind ∷ []) joints ≡ true → Tells (sign_word kind s) (Step Quiet Fresh (λ v. 1))
step_sign_word kind s c j = step_gives (step_word kind c j) (λ l. omega arith)

step_sign : Tells sign (Step Quiet Fresh (λ v. 1))
unfolding number_of sign
step_sign =
    says_either (step_sign_word k.AtMost _ refl refl)
    (says_either (step_sign_word k.Below _ refl refl)
    (says_either (step_sign_word k.AtLeast _ refl refl)
    (says_either (step_sign_word k.Above _ refl refl)
    (says_either (step_sign_word k.Equals _ refl refl) (step_sign_word k.Differs _ refl refl)))))

step_deeper : Tells (deeper literal) (Step Fresh Quiet formula_size)
step_deeper = says_less (says_deeper literal) (λ ts v f. f.step)

step_more : Tells more_literals (Step Quiet Quiet (total (λ f. 1 + formula_size f)))
unfolding number_of
step_more = step_many (step_behind (step_word k.And refl refl) step_deeper)

step_conjunction : Tells conjunction (Step Fresh Quiet formula_size)
unfolding conjunction
step_conjunction = step_gives (step_both step_deeper step_more) (λ v. folded And (λ f g. refl) v.0 v.1)

step_more_conjunctions : Tells more_conjunctions (Step Quiet Quiet (total (λ f. 1 + formula_size f)))
unfolding number_of
step_more_conjunctions = step_many (step_behind (step_word k.Or refl refl) step_conjunction)

pub step_formula : Tells formula (Step Fresh Quiet formula_size)
unfolding formula
step_formula = step_gives (step_both step_conjunction step_more_conjunctions) (λ v. folded Or (λ f g. refl) v.0 v.1)

pub hold_formula : Tells formula (Given Fresh Good IsSizedFormula)
hold_formula = step_given step_formula

step_denial : Tells denial (Step Fresh Quiet formula_size)
unfolding number_of denial
step_denial = step_gives (step_behind (step_fresh (step_word k.Not refl refl)) step_deeper) (λ f. omega arith)

step_opening : Tells (word k.Opening) (Step Fresh Fresh (λ v. 0))
unfolding number_of
step_opening = step_token {m = λ v. 0} (λ t before h f. push_opening t before (word_kind k.Opening t h) f) (λ t before h f. rw add-zero (push_kept t before (apart_right (number_of k.Opening ∷ []) resets (class_of t) refl h) f.quiet))

step_nested : Tells nested_literal (Step Fresh Quiet formula_size)
unfolding number_of nested_literal
step_nested =
    says_either (says_begins step_denial)
    (step_before {m = formula_size} (step_gives (step_both step_opening step_formula) (λ v. omega arith)) (step_silent (word k.Closing) refl))

module _ (bytes : List ℕ) where
  step_comparison : Tells (comparison bytes) (Step Fresh Quiet formula_size)
  unfolding comparison
  step_comparison = step_gives (step_both (step_term bytes) (step_both step_sign (step_term bytes))) (λ v. omega arith)

  step_constant : (kind : Kind) (f : FormulaTree) → within (number_of kind ∷ []) counted ≡ true → apart (number_of kind ∷ []) resets ≡ true → formula_size f ≤ 1 → Tells (gives (λ l. f) (word kind)) (Step Fresh Quiet formula_size)
  step_constant kind f c r h = step_gives (step_fresh (step_counted (number_of kind ∷ []) c r)) (λ l. h)

  step_atom : Tells (atom_literal bytes) (Step Fresh Quiet formula_size)
  unfolding number_of atom_literal
  step_atom = says_either (step_constant k.True True refl refl (omega arith)) (says_either (step_constant k.False False refl refl (omega arith)) step_comparison)

literal_fits : {r : RuleOf FormulaTree} → Tells r (Step Fresh Quiet formula_size) → avoids known braces_and_ends r ≡ true → may_be_empty r ≡ false → Tells r LiteralFits
literal_fits {r = r} p h g = says_less (says_two p (says_two (lacks braces_and_ends r h) (filled r g))) (λ ts v a. record { step = a.0; lack = a.1.0.none; some = a.1.1.within })

pub atom_fits : (bytes : List ℕ) → Tells (atom_literal bytes) LiteralFits
unfolding number_of atom_literal comparison sign term first_product next_product product multiple times_value value size_value sized plain_value dotted outcome_value path member name
atom_fits bytes = literal_fits (step_atom bytes) refl refl

pub nested_fits : Tells nested_literal LiteralFits
unfolding number_of nested_literal denial formula conjunction
nested_fits = literal_fits step_nested refl refl

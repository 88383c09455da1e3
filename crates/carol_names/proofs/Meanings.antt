-- Sums a product more, and faults of formulas from those of their parts.
use Rattle.std.proofs.Common.{◌≡◌, ◌<◌, ℕ, ◌+◌, get_or, length, drop, List, Option, ap, ◌∙◌}
use Rattle.carol_formula.specs.Linear.{Linear}
use Rattle.carol_syntax.specs.declared.formulas.ValueDecl.{ValueDecl}
use Rattle.carol_syntax.specs.declared.formulas.ProductDecl.{ProductDecl}
use Rattle.carol_syntax.specs.declared.formulas.TermDecl.{TermDecl}
use Rattle.carol_syntax.specs.declared.formulas.Sign.{Sign}
use Rattle.carol_syntax.specs.Formulas.{FormulaTree, And, Or, Compare}
use Rattle.carol_meaning.specs.declared.fault.Fault.{Fault}
use Rattle.carol_meaning.specs.Faults.{earliest}
use Rattle.carol_meaning.specs.Terms.{Look, product_worth, added, sum_after, term_worth, values_faults, width_faults, term_faults, comparison_worth, formula_faults}
use Rattle.carol_names.proofs.NameLaws.{item_at, earliest-two, earliest-three}

pub sum_more : (look : Look) (ps : List ProductDecl) (i : ℕ) (p : ProductDecl) (sum worth new whole : Option Linear) → i < length ps → p ≡ get_or ps i p → worth ≡ product_worth look p → new ≡ added sum worth → sum_after look sum (drop i ps) ≡ whole → sum_after look new (drop (i + 1) ps) ≡ whole
sum_more look ps i p sum worth new whole lt is is_worth made so_far = rw (made, is_worth) (rw (item_at ps i p lt is) at so_far)

pub both-faults : (look : Look) (f l r : FormulaTree) (kept one two : Option Fault) → f ≡ And l r → one ≡ earliest kept (formula_faults look l) → two ≡ earliest one (formula_faults look r) → two ≡ earliest kept (formula_faults look f)
both-faults look f l r kept one two is h k = rw is (earliest-two kept one two (formula_faults look l) (formula_faults look r) h k)

pub either-faults : (look : Look) (f l r : FormulaTree) (kept one two : Option Fault) → f ≡ Or l r → one ≡ earliest kept (formula_faults look l) → two ≡ earliest one (formula_faults look r) → two ≡ earliest kept (formula_faults look f)
either-faults look f l r kept one two is h k = rw is (earliest-two kept one two (formula_faults look l) (formula_faults look r) h k)

pub term-faults : (look : Look) (t : TermDecl) (worth : Option Linear) (kept one two : Option Fault) → worth ≡ term_worth look t → one ≡ earliest kept (values_faults look t) → two ≡ earliest one (width_faults t.span worth) → two ≡ earliest kept (term_faults look t)
term-faults look t worth kept one two is h k = earliest-two kept one two (values_faults look t) (width_faults t.span (term_worth look t)) h (rw (← is) k)

pub comparison-faults : (look : Look) (left : TermDecl) (sign : Sign) (right : TermDecl) (s t worth : Option Linear) (kept one two three : Option Fault) → s ≡ term_worth look left → t ≡ term_worth look right → worth ≡ comparison_worth sign s t → one ≡ earliest kept (values_faults look left) → two ≡ earliest one (values_faults look right) → three ≡ earliest two (width_faults left.span worth) → three ≡ earliest kept (formula_faults look (Compare left sign right))
comparison-faults look left sign right s t worth kept one two three is_s is_t is h k l =
    earliest-three kept one two three (values_faults look left) (values_faults look right) (width_faults left.span (comparison_worth sign (term_worth look left) (term_worth look right))) h k (rw (← is_s, ← is_t, ← is) l)

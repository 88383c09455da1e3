-- The places behind statements and behind bodies.
use Rattle.std.proofs.Common.{◌≡◌, ℕ, ◌+◌, ◌≤◌, List, [], ◌∷◌, length, take, refl, ◌∙◌, arith, length-append}
use Rattle.carol_syntax.specs.declared.formulas.TermDecl.{TermDecl}
use Rattle.carol_syntax.specs.declared.bodies.Statement.{Statement}
use Rattle.carol_syntax.specs.declared.bodies.Statement.TheVariants as statement
use Rattle.carol_syntax.specs.Formulas.{FormulaTree}
use Rattle.carol_syntax.specs.Bodies.{BodyTree, Return, If}
use Rattle.carol_syntax.specs.Size.{statement_count, most_items}
use Rattle.carol_meaning.specs.declared.meaning.Meaning.TheVariants.{Queried, Bound}
use Rattle.carol_meaning.specs.Terms.{term_worth}
use Rattle.carol_meaning.specs.Scopes.{Scope}
use Rattle.carol_meaning.specs.Bodies.{Around, Point, in_body, small_or_none, passed, behind, entered, queries_named}
use Rattle.carol_resolve.specs.Scoped.{Extends}
use Rattle.carol_resolve.proofs.Scopes.{extends-same, extends-more, extends-declared, take-extends}
use Rattle.carol_resolve.specs.Points.{behind_body}

pub passed-number : (around : Around) (at : Point) (s : Statement) → (passed around at s).number ≡ at.number + 1
passed-number around at (statement.Query name guard) = refl
passed-number around at statement.Release = refl
passed-number around at (statement.Let name term) = refl
passed-number around at (statement.Issue atoms) = refl

passed-slot : (around : Around) (at : Point) (s : Statement) (ss : List Statement) → (passed around at s).slot + length (queries_named ss) ≡ at.slot + length (queries_named (s ∷ ss))
passed-slot around at (statement.Query name guard) ss = omega arith
passed-slot around at statement.Release ss = refl
passed-slot around at (statement.Let name term) ss = refl
passed-slot around at (statement.Issue atoms) ss = refl

passed-extends : (around : Around) (at : Point) (s : Statement) → Extends at.scope (passed around at s).scope
passed-extends around at (statement.Query name guard) = extends-declared name.word (Queried at.slot) at.scope
passed-extends around at statement.Release = extends-same at.scope
passed-extends around at (statement.Let name term) = extends-declared name.word (Bound (small_or_none (term_worth (in_body around at) term))) at.scope
passed-extends around at (statement.Issue atoms) = extends-same at.scope

behind-number : (around : Around) (at : Point) (ss : List Statement) → (behind around at ss).number ≡ at.number + length ss
behind-number around at [] = omega arith
behind-number around at (s ∷ ss) = omega (arith, behind-number around (passed around at s) ss, passed-number around at s)

behind-slot : (around : Around) (at : Point) (ss : List Statement) → (behind around at ss).slot ≡ at.slot + length (queries_named ss)
behind-slot around at [] = omega arith
behind-slot around at (s ∷ ss) = behind-slot around (passed around at s) ss ∙ passed-slot around at s ss

behind-extends : (around : Around) (at : Point) (ss : List Statement) → Extends at.scope (behind around at ss).scope
behind-extends around at [] = extends-same at.scope
behind-extends around at (s ∷ ss) = extends-more (passed-extends around at s) (behind-extends around (passed around at s) ss)

-- names that were declared on the way are gone
forgotten : (around : Around) (at : Point) (ss : List Statement) → take (length at.scope) (behind around at ss).scope ≡ at.scope
forgotten around at ss = take-extends (behind-extends around at ss)

abbrev point : Scope → ℕ → ℕ → Point
point scope slot number = record { scope = scope; slot = slot; number = number }

same-point : (s t : Scope) (a b n m : ℕ) → s ≡ t → a ≡ b → n ≡ m → point s a n ≡ point t b m
same-point s t a b n m h k l = rw (h, k, l) refl

abbrev left_with : ℕ → Point → Point
left_with names at = record { scope = take names at.scope; slot = at.slot; number = at.number }

pub return-place : (around : Around) (at one two three : Point) (plain : List Statement) (value : TermDecl) (tree : BodyTree) (names : ℕ) → tree ≡ Return plain value → names ≡ length at.scope → one ≡ behind around at plain → two ≡ entered one → three ≡ left_with names two → three ≡ behind_body tree at
return-place around at one two three plain value tree names is is_names h k l = rw (l, k, h, is, is_names) (same-point _ _ _ _ _ _ (forgotten around at plain) (behind-slot around at plain) (omega (arith, behind-number around at plain)))

pub branch-place : (around : Around) (at one two three four five : Point) (plain : List Statement) (test : FormulaTree) (first second tree : BodyTree) (names : ℕ) → tree ≡ If plain test first second → names ≡ length at.scope → one ≡ behind around at plain → two ≡ entered one → three ≡ behind_body first two → four ≡ behind_body second three → five ≡ left_with names four → five ≡ behind_body tree at
branch-place around at one two three four five plain test first second tree names is is_names h k l m n =
    rw (n, m, l, k, h, is, is_names)
    (same-point _ _ _ _ _ _ (forgotten around at plain)
    (simp (length-append) (omega (arith, behind-slot around at plain)))
    (omega (arith, behind-number around at plain)))

-- ---- numbers stay within the limit

pub number_more : (around : Around) (at new : Point) (s : Statement) (more left : List Statement) → left ≡ s ∷ more → new ≡ passed around at s → at.number + length left ≤ most_items + 1 → new.number + length more ≤ most_items + 1
number_more around at new s more left is moved h = rw moved (omega (arith, passed-number around at s, rw is at h))

pub return-room : (around : Around) (at one : Point) (plain : List Statement) (value : TermDecl) (tree : BodyTree) → tree ≡ Return plain value → one ≡ behind around at plain → at.number + statement_count tree ≤ most_items + 1 → one.number ≤ most_items
return-room around at one plain value tree is p h = rw p (omega (arith, behind-number around at plain, rw is at h))

pub branch-room : (around : Around) (at one : Point) (plain : List Statement) (test : FormulaTree) (first second tree : BodyTree) → tree ≡ If plain test first second → one ≡ behind around at plain → at.number + statement_count tree ≤ most_items + 1 → one.number ≤ most_items
branch-room around at one plain test first second tree is p h = rw p (omega (arith, behind-number around at plain, rw is at h))

pub first-room : (around : Around) (at one two : Point) (plain : List Statement) (test : FormulaTree) (first second tree : BodyTree) → tree ≡ If plain test first second → one ≡ behind around at plain → two ≡ entered one → at.number + statement_count tree ≤ most_items + 1 → two.number + statement_count first ≤ most_items + 1
first-room around at one two plain test first second tree is p q h = rw (q, p) (omega (arith, behind-number around at plain, rw is at h))

pub second-room : (around : Around) (at one two three : Point) (plain : List Statement) (test : FormulaTree) (first second tree : BodyTree) → tree ≡ If plain test first second → one ≡ behind around at plain → two ≡ entered one → three ≡ behind_body first two → at.number + statement_count tree ≤ most_items + 1 → three.number + statement_count second ≤ most_items + 1
second-room around at one two three plain test first second tree is p q r h = rw (r, q, p) (omega (arith, behind-number around at plain, rw is at h))

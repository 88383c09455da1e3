-- What bodies are worth and their faults, from those of their parts.
use Rattle.std.proofs.Common.{◌≡◌, List, ◌∷◌, ◌++◌, Option, ap, ◌∙◌}
use Rattle.carol_syntax.specs.declared.formulas.TermDecl.{TermDecl}
use Rattle.carol_syntax.specs.declared.bodies.Statement.{Statement}
use Rattle.carol_syntax.specs.Formulas.{FormulaTree}
use Rattle.carol_syntax.specs.Bodies.{BodyTree, Return, If}
use Rattle.carol_program.specs.Bodies.{Body}
use Rattle.carol_names.proofs.NameLaws.{earliest-append, earliest-two, earliest-three}
use Rattle.carol_meaning.specs.declared.fault.Fault.{Fault}
use Rattle.carol_meaning.specs.Faults.{earliest}
use Rattle.carol_meaning.specs.Terms.{term_faults, formula_faults}
use Rattle.carol_meaning.specs.Bodies.{Around, Point, in_body, statement_faults, passed, before, behind, plain_faults, chain, entered, skipped, body_faults}
use Rattle.carol_resolve.specs.Points.{behind_body}

-- ---- one statement more

pub plain_more : (around : Around) (at new_at : Point) (s : Statement) (more left : List Statement) (kept new whole : Option Fault) → left ≡ s ∷ more → new_at ≡ passed around at s → new ≡ earliest kept (statement_faults around at s) → earliest kept (plain_faults around at left) ≡ whole → earliest new (plain_faults around new_at more) ≡ whole
plain_more around at new_at s more left kept new whole is moved made so_far =
    rw (made, moved, ← earliest-append kept (statement_faults around at s) (plain_faults around (passed around at s) more)) (rw is at so_far)

pub chain_more : (around : Around) (at new_at : Point) (s : Statement) (more left : List Statement) (old new : Body → Body) (last whole : Body) → left ≡ s ∷ more → new_at ≡ passed around at s → ((next : Body) → new next ≡ old (before around at s next)) → old (chain around at left last) ≡ whole → new (chain around new_at more last) ≡ whole
chain_more around at new_at s more left old new last whole is moved made so_far = rw (made, moved) (rw is at so_far)

pub behind_more : (around : Around) (at new_at whole : Point) (s : Statement) (more left : List Statement) → left ≡ s ∷ more → new_at ≡ passed around at s → behind around at left ≡ whole → behind around new_at more ≡ whole
behind_more around at new_at whole s more left is moved so_far = rw moved (rw is at so_far)

-- ---- bodies

pub return-faults : (around : Around) (at one : Point) (plain : List Statement) (value : TermDecl) (tree : BodyTree) (kept f g : Option Fault) → tree ≡ Return plain value → one ≡ behind around at plain → f ≡ earliest kept (plain_faults around at plain) → g ≡ earliest f (term_faults (in_body around one) value) → g ≡ earliest kept (body_faults around at tree)
return-faults around at one plain value tree kept f g is p h k =
    rw is (earliest-two kept f g (plain_faults around at plain) (term_faults (in_body around (behind around at plain)) value) h (rw p at k))

pub branch-faults : (around : Around) (at one two three : Point) (plain : List Statement) (test : FormulaTree) (first second tree : BodyTree) (kept f g h k : Option Fault) → tree ≡ If plain test first second → one ≡ behind around at plain → two ≡ entered one → three ≡ behind_body first two → f ≡ earliest kept (plain_faults around at plain) → g ≡ earliest f (formula_faults (in_body around one) test) → h ≡ earliest g (body_faults around two first) → k ≡ earliest h (body_faults around three second) → k ≡ earliest kept (body_faults around at tree)
branch-faults around at one two three plain test first second tree kept f g h k is p q r is_f is_g is_h is_k =
    let start : two ≡ entered (behind around at plain) = q ∙ ap entered p in
    let other : three ≡ skipped first (behind around at plain) = r ∙ ap (behind_body first) start in
    rw is
    (earliest-two kept f k (plain_faults around at plain)
    (formula_faults (in_body around (behind around at plain)) test ++ (body_faults around (entered (behind around at plain)) first ++ body_faults around (skipped first (behind around at plain)) second))
    is_f
    (earliest-three f g h k (formula_faults (in_body around (behind around at plain)) test) (body_faults around (entered (behind around at plain)) first) (body_faults around (skipped first (behind around at plain)) second)
    (rw p at is_g) (rw start at is_h) (rw other at is_k)))

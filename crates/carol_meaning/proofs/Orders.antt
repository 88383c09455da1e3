-- The numbers and slots of a body's statements, and how many and how deep they are.
use Rattle.std.proofs.Common.{◌≡◌, ℕ, ◌+◌, ◌≤◌, List, [], ◌∷◌, ◌++◌, length, arith, refl, sym, subst, length-append}
use Rattle.carol_syntax.specs.declared.bodies.Statement.{Statement}
use Rattle.carol_syntax.specs.declared.bodies.Statement.TheVariants as statement
use Rattle.carol_syntax.specs.Bodies.{BodyTree, Return, If}
use Rattle.carol_syntax.specs.Size.{statement_count, body_depth}
use Rattle.carol_program.specs.Bodies as body
use Rattle.carol_program.specs.Bodies.{Body, queries_in, last_number, depth}
use Rattle.carol_program.specs.WellFormed.{RisesFrom, SlotsFrom}
use Rattle.carol_meaning.specs.Terms.{term_meaning, formula_meaning}
use Rattle.carol_meaning.specs.Bodies.{Around, Point, in_body, passed, behind, chain, queries_named, queries_within, entered, skipped, body_meaning}

module _ (around : Around) where
  -- ---- the place behind statements

  pub behind-number : (plain : List Statement) (at : Point) → (behind around at plain).number ≡ at.number + length plain
  behind-number [] at = omega arith
  behind-number (statement.Query name guard ∷ ss) at = omega (arith, behind-number ss (passed around at (statement.Query name guard)))
  behind-number (s ∷ ss) at = omega (arith, behind-number ss (passed around at s))

  pub behind-slot : (plain : List Statement) (at : Point) → (behind around at plain).slot ≡ at.slot + length (queries_named plain)
  behind-slot [] at = omega arith
  behind-slot (statement.Query name guard ∷ ss) at = omega (arith, behind-slot ss (passed around at (statement.Query name guard)))
  behind-slot (s ∷ ss) at = behind-slot ss (passed around at s)

  -- ---- statements before what follows them

  chain-queries : (plain : List Statement) (at : Point) (last : Body) → queries_in (chain around at plain last) ≡ length (queries_named plain) + queries_in last
  chain-queries [] at last = omega arith
  chain-queries (statement.Query name guard ∷ ss) at last = omega (arith, chain-queries ss (passed around at (statement.Query name guard)) last)
  chain-queries (s ∷ ss) at last = chain-queries ss (passed around at s) last

  chain-last : (plain : List Statement) (at : Point) (last : Body) → last_number (chain around at plain last) ≡ last_number last
  chain-last [] at last = refl
  chain-last (statement.Query name guard ∷ ss) at last = chain-last ss (passed around at (statement.Query name guard)) last
  chain-last (s ∷ ss) at last = chain-last ss (passed around at s) last

  chain-depth : (plain : List Statement) (at : Point) (last : Body) → depth (chain around at plain last) ≡ depth last
  chain-depth [] at last = refl
  chain-depth (statement.Query name guard ∷ ss) at last = chain-depth ss (passed around at (statement.Query name guard)) last
  chain-depth (s ∷ ss) at last = chain-depth ss (passed around at s) last

  chain-rises : (plain : List Statement) (at : Point) (low : ℕ) (last : Body) → low ≤ at.number → ((l : ℕ) → l ≤ (behind around at plain).number → RisesFrom l last) → RisesFrom low (chain around at plain last)
  chain-rises [] at low last le rises = rises low le
  chain-rises (statement.Let name term ∷ ss) at low last le rises = chain-rises ss (passed around at (statement.Let name term)) low last (omega (arith, le)) rises
  chain-rises (s ∷ ss) at low last le rises = (le, chain-rises ss (passed around at s) (at.number + 1) last (omega arith) rises)

  chain-slots : (plain : List Statement) (at : Point) (last : Body) → SlotsFrom (behind around at plain).slot last → SlotsFrom at.slot (chain around at plain last)
  chain-slots [] at last h = h
  chain-slots (statement.Query name guard ∷ ss) at last h = (refl, chain-slots ss (passed around at (statement.Query name guard)) last h)
  chain-slots (s ∷ ss) at last h = chain-slots ss (passed around at s) last h

  -- ---- bodies

  -- how a body ends, behind its statements
  abbrev return_at : Point → BodyTree → Body
  return_at at (Return plain value) = body.Return at.number (term_meaning (in_body around at) value)
  return_at at (If plain test first second) = body.Branch at.number (formula_meaning (in_body around at) test) (body_meaning around (entered at) first) (body_meaning around (skipped first at) second)

  pub body-queries : (b : BodyTree) (at : Point) → queries_in (body_meaning around at b) ≡ length (queries_within b)
  body-queries (Return plain value) at = omega (arith, chain-queries plain at (return_at (behind around at plain) (Return plain value)))
  body-queries (If plain test first second) at =
      omega (
        arith,
        chain-queries plain at (return_at (behind around at plain) (If plain test first second)),
        length-append (queries_named plain) (queries_within first ++ queries_within second),
        length-append (queries_within first) (queries_within second),
        body-queries first (entered (behind around at plain)),
        body-queries second (skipped first (behind around at plain)),
      )

  -- the numbers of a body end where its statements do
  pub body-last : (b : BodyTree) (at : Point) → last_number (body_meaning around at b) + 1 ≡ at.number + statement_count b
  body-last (Return plain value) at = omega (arith, chain-last plain at (return_at (behind around at plain) (Return plain value)), behind-number plain at)
  body-last (If plain test first second) at =
      omega (arith, chain-last plain at (return_at (behind around at plain) (If plain test first second)), behind-number plain at, body-last second (skipped first (behind around at plain)))

  pub body-depth : (b : BodyTree) (at : Point) → depth (body_meaning around at b) ≡ body_depth b
  body-depth (Return plain value) at = chain-depth plain at (return_at (behind around at plain) (Return plain value))
  body-depth (If plain test first second) at =
      omega (
        arith,
        chain-depth plain at (return_at (behind around at plain) (If plain test first second)),
        body-depth first (entered (behind around at plain)),
        body-depth second (skipped first (behind around at plain)),
      )

  pub body-rises : (b : BodyTree) (at : Point) (low : ℕ) → low ≤ at.number → RisesFrom low (body_meaning around at b)
  body-rises (Return plain value) at low le = chain-rises plain at low (return_at (behind around at plain) (Return plain value)) le (λ l h. h)
  body-rises (If plain test first second) at low le = chain-rises plain at low (return_at (behind around at plain) (If plain test first second)) le
      (λ l h. (
        h,
        body-rises first (entered (behind around at plain)) ((behind around at plain).number + 1) (omega arith),
        body-rises second (skipped first (behind around at plain)) (last_number (body_meaning around (entered (behind around at plain)) first) + 1) (omega (arith, body-last first (entered (behind around at plain)))),
      ))

  pub body-slots : (b : BodyTree) (at : Point) → SlotsFrom at.slot (body_meaning around at b)
  body-slots (Return plain value) at = chain-slots plain at (return_at (behind around at plain) (Return plain value)) tt
  body-slots (If plain test first second) at = chain-slots plain at (return_at (behind around at plain) (If plain test first second)) (
    body-slots first (entered (behind around at plain)),
    subst (λ n. SlotsFrom ((behind around at plain).slot + n) (body_meaning around (skipped first (behind around at plain)) second))
        (sym (body-queries first (entered (behind around at plain)))) (body-slots second (skipped first (behind around at plain))),
  )

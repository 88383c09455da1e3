-- Bodies without faults: what their statements name is there.
use Rattle.std.proofs.Common.{◌≡◌, ℕ, ◌+◌, ◌<◌, ◌≤◌, inl, inr, List, [], ◌∷◌, ◌++◌, length, arith, length-append}
use Rattle.std.specs.Prelude.{Option, Some, None, IfSome}
use Rattle.std.specs.List.{AllByRecursion, flat_map}
use Rattle.carol_store.specs.declared.shape.CellKind.{CellKind}
use Rattle.carol_formula.specs.Linear.{Linear}
use Rattle.carol_syntax.specs.declared.places.Ident.{Ident}
use Rattle.carol_syntax.specs.declared.bodies.Statement.{Statement}
use Rattle.carol_syntax.specs.declared.bodies.Statement.TheVariants as statement
use Rattle.carol_syntax.specs.Bodies.{BodyTree, Return, If}
use Rattle.carol_syntax.specs.Shape.{IsStatement, IsBody}
use Rattle.carol_meaning.specs.Sizes.{HasShortParts}
use Rattle.carol_program.specs.Limits.{most_cells, most_queries}
use Rattle.carol_program.specs.Variables.{AreAmong, body_variables}
use Rattle.carol_program.specs.Bodies as body
use Rattle.carol_program.specs.Bodies.{Body}
use Rattle.carol_program.specs.WellFormed.{Setting, IsFitBody}
use Rattle.carol_meaning.specs.declared.meaning.Meaning.TheVariants.{Queried, Bound}
use Rattle.carol_meaning.specs.Declarations.{place_of}
use Rattle.carol_meaning.specs.Cells.{kinds_in}
use Rattle.carol_meaning.specs.Terms.{is_small, term_worth, term_meaning, term_faults, formula_meaning}
use Rattle.carol_meaning.specs.Scopes.{Scope, declared}
use Rattle.carol_meaning.specs.Bodies.{Around, Point, in_body, small_or_none, passed, behind, unknown_guard, guard_number, issue_faults, plain_faults, chain, queries_named, queries_within, entered, skipped, body_faults, body_meaning}
use Rattle.carol_meaning.proofs.Lists.{no_part, second-none, either-way}
use Rattle.carol_meaning.proofs.Among.{AreNarrow, Widens, IsTermIn}
use Rattle.carol_meaning.proofs.Terms.{LooksIn, worth-in, meaning-over, formula-over}
use Rattle.carol_meaning.proofs.Cells.{place_of-within}
use Rattle.carol_meaning.proofs.Looks.{AreMeaningsIn, meanings-wider, declared-in, scope-looks}
use Rattle.carol_meaning.proofs.Issues.{parts-apart, some-parts, parts-over}
use Rattle.carol_meaning.proofs.Orders.{behind-slot}

-- the names of a place stand for variables of the queries in these slots, which are narrow
pub record IsPlace (cells : List CellKind) (params : ℕ) (slots : List ℕ) (scope : Scope) : Type 0 where
  pub meanings : AreMeaningsIn (body_variables cells params slots) (length cells) scope
  pub narrow : AreNarrow (body_variables cells params slots)

-- ---- places

query-wider : (cells : List CellKind) (params slot : ℕ) (slots : List ℕ) → Widens (body_variables cells params slots) (body_variables cells params (slot ∷ slots))
query-wider cells params slot slots v (inl h) = inl h
query-wider cells params slot slots v (inr h) = inr (inr h)

query-narrow : (cells : List CellKind) (params slot : ℕ) (slots : List ℕ) → length cells ≤ most_cells → slot < most_queries → AreNarrow (body_variables cells params slots) → AreNarrow (body_variables cells params (slot ∷ slots))
query-narrow cells params slot slots few lt narrow v (inl h) = narrow v (inl h)
query-narrow cells params slot slots few lt narrow v (inr (inl h)) = omega (arith, h.1, few, lt)
query-narrow cells params slot slots few lt narrow v (inr (inr h)) = narrow v (inr h)

queried-place : (cells : List CellKind) (params slot : ℕ) (slots word : List ℕ) (scope : Scope) → length cells ≤ most_cells → slot < most_queries → IsPlace cells params slots scope → IsPlace cells params (slot ∷ slots) (declared word (Queried slot) scope)
queried-place cells params slot slots word scope few lt place = record {
  meanings = declared-in (body_variables cells params (slot ∷ slots)) (length cells) word (Queried slot) scope (λ v h k. inr (inl (h, k)))
      (meanings-wider (body_variables cells params slots) (body_variables cells params (slot ∷ slots)) (length cells) (query-wider cells params slot slots) scope place.meanings);
  narrow = query-narrow cells params slot slots few lt place.narrow;
}

small-in : (ranges : List (ℕ × ℕ)) (t : Option Linear) → IfSome t (IsTermIn ranges) → IfSome (small_or_none t) (λ u. AreAmong ranges u.pairs)
small-in ranges None h = tt
small-in ranges (Some t) h = either-way (λ o. IfSome o (λ u. AreAmong ranges u.pairs)) (is_small t) (Some t) None h.variables tt

bound-place : (cells : List CellKind) (params : ℕ) (slots word : List ℕ) (term : Option Linear) (scope : Scope) → IfSome term (IsTermIn (body_variables cells params slots)) → IsPlace cells params slots scope → IsPlace cells params slots (declared word (Bound (small_or_none term)) scope)
bound-place cells params slots word term scope h place = record {
  meanings = declared-in (body_variables cells params slots) (length cells) word (Bound (small_or_none term)) scope (small-in (body_variables cells params slots) term h) place.meanings;
  narrow = place.narrow;
}

guard-known : (guards : ℕ) (guard : Ident) (place : Option ℕ) → unknown_guard guard place ≡ [] → IfSome place (λ i. i < guards) → guard_number place < guards
guard-known guards guard None none h = cc
guard-known guards guard (Some n) none h = h

-- ---- bodies

module _ (around : Around) (params : ℕ) (few : length (flat_map kinds_in around.cells) ≤ most_cells) where
  abbrev cells : List CellKind
  cells = flat_map kinds_in around.cells

  abbrev ranges : List ℕ → List (ℕ × ℕ)
  ranges slots = body_variables cells params slots

  abbrev setting : Setting
  setting = record { kinds = cells; guards = length around.guards; params = params }

  looks : (at : Point) (slots : List ℕ) → IsPlace cells params slots at.scope → LooksIn (ranges slots) (in_body around at)
  looks at slots place v = scope-looks (ranges slots) around.cells at.scope place.meanings v

  chain-fits : (plain : List Statement) (at : Point) (slots : List ℕ) (last : Body) → IsPlace cells params slots at.scope → plain_faults around at plain ≡ [] → AllByRecursion IsStatement plain → at.slot + length (queries_named plain) ≤ most_queries →
      ((more : List ℕ) → IsPlace cells params more (behind around at plain).scope → IsFitBody setting more last) → IsFitBody setting slots (chain around at plain last)
  chain-fits [] at slots last place none shape room fits = fits slots place
  chain-fits (statement.Query name guard ∷ ss) at slots last place none shape room fits = (
    guard-known (length around.guards) guard (place_of guard.word around.guards) (search no_part) (place_of-within guard.word around.guards),
    chain-fits ss (passed around at (statement.Query name guard)) (at.slot ∷ slots) last (queried-place cells params at.slot slots name.word at.scope few (omega (arith, room)) place)
        (second-none (unknown_guard guard (place_of guard.word around.guards)) _ none) shape.1 (omega (arith, room)) fits,
  )
  chain-fits (statement.Release ∷ ss) at slots last place none shape room fits = chain-fits ss (passed around at statement.Release) slots last place none shape.1 room fits
  chain-fits (statement.Let name term ∷ ss) at slots last place none shape room fits =
      chain-fits ss (passed around at (statement.Let name term)) slots last
      (bound-place cells params slots name.word (term_worth (in_body around at) term) at.scope (worth-in (ranges slots) (in_body around at) (looks at slots place) term) place)
      (second-none (term_faults (in_body around at) term) _ none) shape.1 room fits
  chain-fits (statement.Issue atoms ∷ ss) at slots last place none shape room fits =
      let own : issue_faults around at [] atoms ≡ [] = search no_part in (
        (some-parts around at atoms shape.0.0, parts-over around at (ranges slots) place.narrow (looks at slots place) atoms own, parts-apart around at atoms own),
        chain-fits ss (passed around at (statement.Issue atoms)) slots last place (second-none (issue_faults around at [] atoms) _ none) shape.1 room fits,
      )

  pub body-fits : (b : BodyTree) (at : Point) (slots : List ℕ) → IsPlace cells params slots at.scope → body_faults around at b ≡ [] → IsBody b → HasShortParts b → at.slot + length (queries_within b) ≤ most_queries → IsFitBody setting slots (body_meaning around at b)
  body-fits (Return plain value) at slots place none shape sized room =
      let end = behind around at plain in
      chain-fits plain at slots (body.Return end.number (term_meaning (in_body around end) value)) place (search no_part) shape.0 room
      (λ more there. meaning-over (ranges more) there.narrow (in_body around end) (looks end more there) value (search no_part))
  body-fits (If plain test first second) at slots place none shape sized room =
      let end = behind around at plain in
      let count = length-append (queries_named plain) (queries_within first ++ queries_within second) in
      let counts = length-append (queries_within first) (queries_within second) in
      let slot = behind-slot around plain at in
      chain-fits plain at slots
      (body.Branch end.number (formula_meaning (in_body around end) test) (body_meaning around (entered end) first) (body_meaning around (skipped first end) second))
      place (search no_part) shape.0 (omega (arith, room, count))
      (λ more there. (
        formula-over (ranges more) there.narrow (in_body around end) (looks end more there) test sized.1 (search no_part),
        body-fits first (entered end) more there (search no_part) shape.2 sized.2 (omega (arith, room, count, counts, slot)),
        body-fits second (skipped first end) more there (search no_part) shape.3 sized.3 (omega (arith, room, count, counts, slot)),
      ))

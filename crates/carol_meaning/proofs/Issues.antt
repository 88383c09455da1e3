-- The parts of an issue without faults.
use Rattle.std.proofs.Common.{◌≡◌, ◌≢◌, ℕ, zero, suc, ◌<◌, Bool, true, false, List, [], ◌∷◌, length, arith, refl, sym, ap, ◌∙◌, subst}
use Rattle.std.specs.Prelude.{Some, slice_get, ◌==◌, ◌||◌}
use Rattle.std.specs.List.{AllByRecursion, flat_map}
use Rattle.std.proofs.lemmas.Option.{same_Some}
use Rattle.carol_store.specs.declared.shape.CellKind.{CellKind}
use Rattle.carol_store.specs.declared.shape.CellKind.TheVariants.{Counter, Peak, Flag}
use Rattle.carol_formula.specs.Linear.{Linear}
use Rattle.carol_formula.proofs.Orders.{equal-eq}
use Rattle.carol_syntax.specs.declared.formulas.ValueDecl.{ValueDecl}
use Rattle.carol_syntax.specs.declared.bodies.PathDecl.{PathDecl}
use Rattle.carol_syntax.specs.declared.bodies.Change.{Change}
use Rattle.carol_syntax.specs.declared.bodies.Change.TheVariants.{Add, Take, Raise, Set}
use Rattle.carol_syntax.specs.declared.bodies.AtomDecl.{AtomDecl}
use Rattle.carol_program.specs.WellFormed.{IsTermOver, IsDoneTo, IsDoneAt, IsPartOver, HasNone, AreApart}
use Rattle.carol_meaning.specs.declared.fault.NameKind.TheVariants.{Twice, WrongKind}
use Rattle.carol_meaning.specs.declared.named.Named.{Named}
use Rattle.carol_meaning.specs.declared.named.Named.TheVariants.{Cell}
use Rattle.carol_meaning.specs.Cells.{kinds_in}
use Rattle.carol_meaning.specs.Terms.{Look}
use Rattle.carol_meaning.specs.Stores.{words}
use Rattle.carol_meaning.specs.Bodies.{Around, Point, in_body, path_fault, suits, change_faults, amount_faults, cell_number, has_number, again_faults, seen_with, target, issue_faults, amount_of, parts_of}
use Rattle.carol_meaning.proofs.Lists.{no_part, passed-test, failed-test}
use Rattle.carol_meaning.proofs.Among.{AreNarrow}
use Rattle.carol_meaning.proofs.Terms.{LooksIn, meaning-over, negated-over}
use Rattle.carol_meaning.proofs.Cells.{IsNamedIn, named-in}

-- ---- one part

done-at : (kinds : List CellKind) (number : ℕ) (kind : CellKind) (t : Linear) → slice_get kinds number ≡ Some kind → IsDoneTo kind t → IsDoneAt kinds number t
done-at [] number kind t h d = cc
done-at (k ∷ kinds) zero kind t h d = subst (λ x. IsDoneTo x t) (sym (same_Some k kind h)) d
done-at (k ∷ kinds) (suc number) kind t h d = done-at kinds number kind t h d

done-to : (look : Look) (kind : CellKind) (change : Change) → suits kind change ≡ true → IsDoneTo kind (amount_of look change)
done-to look Counter change h = tt
done-to look Peak change h = tt
done-to look Flag Set h = refl
done-to look Flag _ h = cc

amount-over : (ranges : List (ℕ × ℕ)) → AreNarrow ranges → (look : Look) → LooksIn ranges look → (change : Change) → amount_faults look change ≡ [] → IsTermOver ranges (amount_of look change)
amount-over ranges narrow look looks (Add t) h = meaning-over ranges narrow look looks t h
amount-over ranges narrow look looks (Take t) h = negated-over ranges narrow look looks t h
amount-over ranges narrow look looks (Raise t) h = meaning-over ranges narrow look looks t h
amount-over ranges narrow look looks Set h = record { variables = tt; small = (tt, omega arith); short = omega arith }

-- what is changed is a cell, in a way that suits it
changed-done : (kinds : List CellKind) (look : Look) (path : PathDecl) (change : Change) (found : Named) → IsNamedIn kinds found → change_faults path change found ≡ [] → IsDoneAt kinds (cell_number found) (amount_of look change)
changed-done kinds look path change (Cell number kind) h none =
    done-at kinds number kind (amount_of look change) h (done-to look kind change (passed-test (suits kind change) (path_fault WrongKind path) [] none))
changed-done kinds look path change _ h none = cc

-- ---- cells that were seen

or-first : (a b : Bool) → a ≡ true → (a || b) ≡ true
or-first true b h = refl
or-first false b h = cc

or-second : (a b : Bool) → b ≡ true → (a || b) ≡ true
or-second true b h = refl
or-second false b h = h

-- a cell that was seen is no cell of a further part
other-cell : (n : ℕ) (seen : List ℕ) (path : PathDecl) (change : Change) (found : Named) → has_number n seen ≡ true → again_faults seen path found ≡ [] → change_faults path change found ≡ [] → cell_number found ≢ n
other-cell n seen path change (Cell number kind) among again none same = absurd (true_is_false (sym among ∙ ap (λ k. has_number k seen) (sym same) ∙ failed-test (has_number number seen) (path_fault Twice path) [] again))
  where
    true_is_false : true ≡ false → ⊥
    true_is_false h = cc
other-cell n seen path change _ among again none same = cc

still-seen : (n : ℕ) (seen : List ℕ) (found : Named) → has_number n seen ≡ true → has_number n (seen_with seen found) ≡ true
still-seen n seen (Cell number kind) h = or-second (n == number) (has_number n seen) h
still-seen n seen _ h = h

now-seen : (seen : List ℕ) (path : PathDecl) (change : Change) (found : Named) → change_faults path change found ≡ [] → has_number (cell_number found) (seen_with seen found) ≡ true
now-seen seen path change (Cell number kind) none = or-first (number == number) (has_number number seen) (equal-eq number number refl)
now-seen seen path change _ none = cc

-- ---- all parts

module _ (around : Around) (at : Point) where
  none-seen : (n : ℕ) (seen : List ℕ) (atoms : List AtomDecl) → has_number n seen ≡ true → issue_faults around at seen atoms ≡ [] → HasNone n (parts_of around at atoms)
  none-seen n seen [] among h = tt
  none-seen n seen (a ∷ more) among h = (
    other-cell n seen a.path a.change (target around a) among (search no_part) (search no_part),
    none-seen n (seen_with seen (target around a)) more (still-seen n seen (target around a) among) (search no_part),
  )

  apart-from : (seen : List ℕ) (atoms : List AtomDecl) → issue_faults around at seen atoms ≡ [] → AreApart (parts_of around at atoms)
  apart-from seen [] h = tt
  apart-from seen (a ∷ more) h = (
    none-seen (cell_number (target around a)) (seen_with seen (target around a)) more (now-seen seen a.path a.change (target around a) (search no_part)) (search no_part),
    apart-from (seen_with seen (target around a)) more (search no_part),
  )

  pub parts-apart : (atoms : List AtomDecl) → issue_faults around at [] atoms ≡ [] → AreApart (parts_of around at atoms)
  parts-apart atoms h = apart-from [] atoms h

  pub some-parts : (atoms : List AtomDecl) → 0 < length atoms → 0 < length (parts_of around at atoms)
  some-parts [] h = h
  some-parts (a ∷ more) h = omega arith

  module _ (ranges : List (ℕ × ℕ)) (narrow : AreNarrow ranges) (looks : LooksIn ranges (in_body around at)) where
    over-from : (seen : List ℕ) (atoms : List AtomDecl) → issue_faults around at seen atoms ≡ [] → AllByRecursion (IsPartOver (flat_map kinds_in around.cells) ranges) (parts_of around at atoms)
    over-from seen [] h = tt
    over-from seen (a ∷ more) h = (
      (
        changed-done (flat_map kinds_in around.cells) (in_body around at) a.path a.change (target around a) (named-in around.cells (words a.path.parts)) (search no_part),
        amount-over ranges narrow (in_body around at) looks a.change (search no_part),
      ),
      over-from (seen_with seen (target around a)) more (search no_part),
    )

    pub parts-over : (atoms : List AtomDecl) → issue_faults around at [] atoms ≡ [] → AllByRecursion (IsPartOver (flat_map kinds_in around.cells) ranges) (parts_of around at atoms)
    parts-over atoms h = over-from [] atoms h

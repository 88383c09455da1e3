-- Equal lists of atoms, compared one by one.
use Rattle.std.proofs.Common.{◌≡◌, Bool, eqb, ◌&&◌, List, ap}
use Rattle.std.specs.Ordering.{int_eq}
use Rattle.std.specs.Bool.{Decides}
use Rattle.std.proofs.lemmas.Bool.{and_from, and_parts, eq-eqb, eqb-true}
use Rattle.std.proofs.lemmas.Bool.Decides.{Decides-int_eq}
use Rattle.carol_store.specs.declared.effect.Atom.{Atom}
use lib.Pointwise.{pointwise, pointwise_decides}

abbrev pub same_atom : Atom → Atom → Bool
same_atom a b = eqb a.cell b.cell && int_eq a.value b.value

same_parts : (a b : Atom) → a.cell ≡ b.cell → a.value ≡ b.value → a ≡ b
same_parts a b cell value = λ i. record { cell = cell i; value = value i }

atom_decides : (a b : Atom) → Decides (same_atom a b) (a ≡ b)
atom_decides a b = (
  λ e. let parts = and_parts (eqb a.cell b.cell) (int_eq a.value b.value) e in same_parts a b (eqb-true a.cell b.cell parts.0) ((Decides-int_eq a.value b.value).0 parts.1),
  λ e. and_from (eqb a.cell b.cell) (int_eq a.value b.value) (eq-eqb a.cell b.cell (ap (λ (x : Atom). x.cell) e)) ((Decides-int_eq a.value b.value).1 (ap (λ (x : Atom). x.value) e)),
)

pub atoms_decide : (xs ys : List Atom) → Decides (pointwise same_atom xs ys) (xs ≡ ys)
atoms_decide xs ys = pointwise_decides atom_decides xs ys

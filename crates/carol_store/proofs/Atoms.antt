-- One atom of an effect after another.
use Rattle.std.proofs.Common.{◌≡◌, ℕ, ◌+◌, ◌<◌, suc, List, ◌∷◌, length, get_or, drop, drop-cons, add-one}
use Rattle.carol_store.specs.declared.shape.CellKind.{CellKind}
use Rattle.carol_store.specs.declared.effect.Atom.{Atom}
use Rattle.carol_store.specs.Effects.{AreAtomsOf}
use Rattle.carol_store.specs.Stores.{IsStore, StaysInWords, apply, with_cell}
use Rattle.carol_store.specs.Kinds.{CellValue, changed}
use Rattle.carol_store.proofs.Cells.{IsStore-at_cell}
use Rattle.carol_store.proofs.KindLaws.{MayHold-changed}

-- the atoms that are left make of the store what all of them make of the first one
pub record Leads (shape : List CellKind) (atoms : List Atom) (first : List CellValue) (left : List Atom) (store : List CellValue) : Type 0 where
  pub ends : apply shape left store ≡ apply shape atoms first
  pub is_store : IsStore shape store
  pub fits : AreAtomsOf shape left
  pub words : StaysInWords shape left store

-- so it is after the next one
pub Leads-cons : (shape : List CellKind) (atoms : List Atom) (first : List CellValue) (atom : Atom) (left : List Atom) (store : List CellValue) → Leads shape atoms first (atom ∷ left) store → Leads shape atoms first left (with_cell shape atom store)
Leads-cons shape atoms first atom left store h = record {
  ends = h.ends;
  is_store = IsStore-at_cell (λ kind value. changed kind value atom.value) (λ kind value. MayHold-changed kind value atom.value) shape atom.cell store h.is_store;
  fits = h.fits.1;
  words = h.words.1;
}

-- the same by the place of the next one
pub Leads-next : (shape : List CellKind) (atoms : List Atom) (first : List CellValue) (place : ℕ) (blank : Atom) (store : List CellValue) → place < length atoms → Leads shape atoms first (drop place atoms) store → Leads shape atoms first (drop (place + 1) atoms) (with_cell shape (get_or atoms place blank) store)
Leads-next shape atoms first place blank store inside h =
    rw add-one (Leads-cons shape atoms first (get_or atoms place blank) (drop (suc place) atoms) store (rw (drop-cons atoms place blank inside) at h))

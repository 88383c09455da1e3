-- A journal's rows, after one more entry.
use Rattle.std.proofs.Common.{◌≡◌, ◌≤◌, List, [], ◌∷◌, ◌++◌, length, drop, refl, ap, arith, length-drop}
use Rattle.std.specs.Prelude.{map}
use Rattle.std.specs.List.{AllByRecursion}
use Rattle.std.proofs.Math.Seq.{drop-append_seam, take-length}
use Rattle.std.proofs.lemmas.List.{drop-append-le, take-append-le}
use Rattle.carol_store.specs.declared.effect.Atom.{Atom}
use Rattle.carol_replica.specs.declared.journal.Row.{Row}
use Rattle.carol_replica.specs.Rows.{IsInside, atoms_of}

-- more atoms behind change no row that is inside
same_row : (atoms more : List Atom) (row : Row) → IsInside (length atoms) row → atoms_of (atoms ++ more) row ≡ atoms_of atoms row
same_row atoms more row inside =
    let within : row.start ≤ length atoms = omega (arith, inside)
    in let enough : row.len ≤ length (drop row.start atoms) = omega (arith, length-drop row.start atoms)
    in rw (drop-append-le row.start atoms more within, take-append-le row.len (drop row.start atoms) more enough) refl

-- the atoms behind are those of the new row
last_row : (atoms more : List Atom) → atoms_of (atoms ++ more) (record { start = length atoms; len = length more }) ≡ more
last_row atoms more = rw (drop-append_seam atoms more) (take-length more)

pub rows_more : (atoms more : List Atom) (rows : List Row) (row : Row) → row ≡ record { start = length atoms; len = length more } → AllByRecursion (IsInside (length atoms)) rows → map (atoms_of (atoms ++ more)) (rows ++ row ∷ []) ≡ map (atoms_of atoms) rows ++ more ∷ []
rows_more atoms more [] row is inside = rw (is, last_row atoms more) refl
rows_more atoms more (r ∷ rows) row is inside = rw (same_row atoms more r inside.0) (ap (λ (t : List (List Atom)). atoms_of atoms r ∷ t) (rows_more atoms more rows row is inside.1))

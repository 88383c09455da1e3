-- How many cells are declared.
use Rattle.std.proofs.Common.{◌≡◌, ◌≤◌, ℕ, List, [], ◌∷◌, ◌++◌, length, length-append, map, Option, Some, None, refl, inl, inr}
use Rattle.std.specs.Prelude.{slice_get}
use Rattle.std.specs.List.{flat_map}
use Rattle.std.proofs.lemmas.List.{length-map}
use Rattle.std.proofs.lemmas.Option.{slice_get_cases}
use Rattle.carol_syntax.specs.declared.places.Ident.{Ident}
use Rattle.carol_syntax.specs.declared.cells.CellDecl.{CellDecl}
use Rattle.carol_syntax.specs.declared.cells.CellDecl.TheVariants.{Field, Set, Record}
use Rattle.carol_syntax.specs.Size.{cell_count, cell_total}
use Rattle.carol_program.specs.Limits.{most_cells}
use Rattle.carol_meaning.specs.declared.fault.Fault.{Fault}
use Rattle.carol_meaning.specs.Declarations.{twice_in, too_many, one_too_many}
use Rattle.carol_meaning.specs.Cells.{name_of, cell_names, member_faults, cell_faults}

length-cell_names : (d : CellDecl) → length (cell_names d) ≡ cell_count d
length-cell_names (Field f) = refl
length-cell_names (Set name members) = refl
length-cell_names (Record name fields) = length-map fields (λ f. f.name)

length-names : (ds : List CellDecl) → length (flat_map cell_names ds) ≡ cell_total ds
length-names [] = refl
length-names (d ∷ ds) = rw (length-append (cell_names d) (flat_map cell_names ds), length-cell_names d, length-names ds) refl

none-past : {A : Type 0} (xs : List A) (n : ℕ) → slice_get xs n ≡ None → length xs ≤ n
none-past xs n none = elim (slice_get_cases xs n).1 [ inl h ↦ absurd (cc (h.2, none)) | inr h ↦ h.0 ]

one-none : (o : Option Ident) → one_too_many o ≡ [] → o ≡ None
one-none None h = refl
one-none (Some i) h = cc

none-behind : (fs gs : List Fault) → fs ++ gs ≡ [] → gs ≡ []
none-behind [] gs h = h
none-behind (f ∷ fs) gs h = cc

-- where nothing is wrong with them there are at most sixteen cells
pub few-cells : (ds : List CellDecl) → cell_faults ds ≡ [] → cell_total ds ≤ most_cells
few-cells ds none =
    let past : length (flat_map cell_names ds) ≤ most_cells =
    none-past (flat_map cell_names ds) most_cells
    (one-none (slice_get (flat_map cell_names ds) most_cells)
    (none-behind (twice_in (map name_of ds) ++ flat_map member_faults ds) (too_many most_cells (flat_map cell_names ds)) none)) in
    rw (length-names ds) at past

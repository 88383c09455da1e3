-- The rows near a place of a search: fewer ones, which stand for all.
use Rattle.std.specs.Prelude.{ℕ, ◌≡◌, ◌+◌, ◌-◌, ◌<◌, List, [], ◌∷◌, ◌++◌, length, take, slice_set, slice_index_or, Option, Some, None}
use Rattle.carol_formula.specs.Linear.{Linear}
use Rattle.carol_formula.specs.declared.term.Row.{Row}
use Rattle.carol_cert.specs.declared.step.RowStep.{RowStep}
use Rattle.carol_cert.specs.declared.step.RowStep.TheVariants.{Given}
use Rattle.carol_elimination.specs.Stands.{Dominates}
use Rattle.carol_elimination.specs.Derived.{row_at}
use Rattle.carol_elimination.specs.Entries.{terms_of}
use Rattle.carol_linear.specs.Path.{frame_row}
use Rattle.carol_linear.specs.declared.branch.Frame.{Frame}
use Rattle.carol_linear.specs.declared.place.Covered.{Covered}
use Rattle.carol_linear.specs.declared.place.Place.{Place}

-- ---- a row more

-- the rows with one more, at the end or in place of the one that it covers
abbrev pub row_with : Option Covered → Linear → List Linear → List Linear
row_with None r rows = rows ++ r ∷ []
row_with (Some c) r rows = slice_set rows c.place r

abbrev pub name_with : Option Covered → RowStep → List RowStep → List RowStep
name_with None name names = names ++ name ∷ []
name_with (Some c) name names = slice_set names c.place name

-- the row that is covered stood at its place, and the other row is tighter
pub record IsTighter (rows : List Linear) (names : List RowStep) (r : Linear) (c : Covered) : Type 0 where
  pub row_stands : c.place < length rows
  pub name_stands : c.place < length names
  pub row : row_at rows c.place ≡ c.row.0
  pub name : slice_index_or names c.place c.name ≡ c.name
  pub tighter : Dominates r c.row.0

abbrev pub Covers : List Linear → List RowStep → Linear → Option Covered → Type 0
Covers rows names r None = Unit {0}
Covers rows names r (Some c) = IsTighter rows names r c

pub record Adds (old new : Place) (r : Linear) (name : RowStep) (covered : Option Covered) : Type 0 where
  pub rows : terms_of new.rows.items ≡ row_with covered r (terms_of old.rows.items)
  pub names : new.names.items ≡ name_with covered name old.names.items
  pub covers : Covers (terms_of old.rows.items) old.names.items r covered

-- ---- a row less

abbrev pub rows_back : Option Covered → List Row → List Row
rows_back None rows = take (length rows - 1) rows
rows_back (Some c) rows = slice_set rows c.place c.row

abbrev pub names_back : Option Covered → List RowStep → List RowStep
names_back None names = take (length names - 1) names
names_back (Some c) names = slice_set names c.place c.name

-- ---- the rows of branches

abbrev pub near_rows : List Linear → List Frame → List Linear
near_rows rows [] = rows
near_rows rows (f ∷ frames) = near_rows (row_with f.covered (frame_row f) rows) frames

-- their names, where the first branch's row is claim n
abbrev pub near_names : List RowStep → ℕ → List Frame → List RowStep
near_names names n [] = names
near_names names n (f ∷ frames) = near_names (name_with f.covered (Given n) names) (n + 1) frames

-- each branch's row covers one of those before it, or none
abbrev pub AreCovering : List Linear → List RowStep → ℕ → List Frame → Type 0
AreCovering rows names n [] = Unit {0}
AreCovering rows names n (f ∷ frames) = Covers rows names (frame_row f) f.covered × AreCovering (row_with f.covered (frame_row f) rows) (name_with f.covered (Given n) names) (n + 1) frames

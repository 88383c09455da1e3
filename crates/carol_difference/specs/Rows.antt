-- Rows of differences: the claim that a variable minus another and a constant is at most 0.
use Rattle.std.specs.Prelude.{◌≡◌, ℕ, ◌<◌, ◌⊎◌, List, [], ◌∷◌, length, map, slice_index_or, ℤ, pos, negsuc}
use Rattle.carol_formula.specs.Bounds.{row_limit}
use Rattle.carol_formula.specs.Linear.{IsWithin, constant_of}
use Rattle.carol_formula.specs.Claim.{Claim, Le}
use Rattle.carol_formula.specs.declared.Row.{Row}

-- 1 or -1
abbrev pub IsUnit : ℤ → Type 0
IsUnit c = (c ≡ pos 1) ⊎ (c ≡ negsuc 0)

-- 1 and -1, in either order
abbrev pub AreOpposite : ℤ → ℤ → Type 0
AreOpposite c d = ((c ≡ pos 1) × (d ≡ negsuc 0)) ⊎ ((c ≡ negsuc 0) × (d ≡ pos 1))

-- no variable, one with coefficient 1 or -1, or two of which one has 1 and the other -1
abbrev pub AreDifference : List (ℕ × ℤ) → Type 0
AreDifference [] = Unit {0}
AreDifference (p ∷ []) = IsUnit p.1
AreDifference (p ∷ q ∷ []) = AreOpposite p.1 q.1
AreDifference (p ∷ q ∷ r ∷ ps) = ⊥

abbrev pub IsDifference : Row → Type 0
IsDifference row = AreDifference row.0.pairs

-- each coefficient and the constant of the row are below the rows' limit
abbrev pub IsNarrow : Row → Type 0
IsNarrow row = IsWithin row_limit row.0

-- the row with this number
abbrev pub row_at : List Row → ℕ → Row
row_at rows k = slice_index_or rows k (record { 0 = constant_of (pos 0) })

-- row i is no row of differences, and all before it are
pub record IsFirstOther (rows : List Row) (i : ℕ) : Type 0 where
  pub known : i < length rows
  pub other : ¬ IsDifference (row_at rows i)
  pub before : (k : ℕ) → k < i → IsDifference (row_at rows k)

-- what a row claims
abbrev pub claim_of_row : Row → Claim
claim_of_row row = Le row.0

abbrev pub claims_of : List Row → List Claim
claims_of rows = map claim_of_row rows

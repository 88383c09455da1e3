-- How the counts go with the rows.
use Rattle.std.proofs.Common.{◌≡◌, ℕ, ◌+◌, ◌*◌, ◌<◌, ◌≤◌, zero, suc, Bool, true, false, ◌&&◌, List, [], ◌∷◌, length, set, replicate, get_or, Some, refl, arith}
use Rattle.std.specs.Prelude.{if◌then◌else◌, slice_get}
use Rattle.std.specs.List.{AllByRecursion}
use Rattle.carol_grant.specs.Counts.{count_row, count_rows}

-- one or none
pub bit-few : (b : Bool) → (if b then 1 else 0) ≤ 1
bit-few true = omega arith
bit-few false = omega arith

module _ (passes : ℕ → Bool) where
  -- where nothing is granted
  pub count_row-none : (first n : ℕ) → count_row passes first (replicate n false) ≡ 0
  count_row-none first zero = refl
  count_row-none first (suc n) = omega (arith, count_row-none (first + 1) n)

  -- with one more grant
  pub count_row-set : (first : ℕ) (row : List Bool) (i at : ℕ) → at ≡ first + i → i < length row → get_or row i false ≡ false → count_row passes first (set row i true) ≡ (if passes at then 1 else 0) + count_row passes first row
  count_row-set first [] i at e h fresh = absurd (omega arith)
  count_row-set first (live ∷ row) zero at e h fresh =
      let here : at ≡ first = omega arith
      in rw (fresh, here) (omega arith)
  count_row-set first (live ∷ row) (suc i) at e h fresh =
      omega (arith, count_row-set (first + 1) row i at (omega arith) (omega arith) fresh)

  -- each guard counts once at most
  pub count_row-few : (first : ℕ) (row : List Bool) → count_row passes first row ≤ length row
  count_row-few first [] = omega arith
  count_row-few first (live ∷ row) =
      omega (arith, bit-few (live && passes first), count_row-few (first + 1) row)

  -- with another row at a place
  pub count_rows-set : (rows : List (List Bool)) (s : ℕ) (old new : List Bool) → slice_get rows s ≡ Some old → count_rows passes (set rows s new) + count_row passes 0 old ≡ count_rows passes rows + count_row passes 0 new
  count_rows-set [] s old new at = absurd (cc)
  count_rows-set (row ∷ rows) zero old new at = let e : row ≡ old = cc in rw e (omega arith)
  count_rows-set (row ∷ rows) (suc s) old new at = omega (arith, count_rows-set rows s old new at)

  -- rows of few guards
  pub count_rows-few : (most : ℕ) (rows : List (List Bool)) → AllByRecursion (λ row. length row ≤ most) rows → count_rows passes rows ≤ most * length rows
  count_rows-few most [] few = omega arith
  count_rows-few most (row ∷ rows) few = omega (arith, count_row-few 0 row, count_rows-few most rows few.1, few.0)

-- What stands at a number of a list after a change.
use Rattle.std.proofs.Common.{◌≡◌, ◌≢◌, ℕ, zero, suc, ◌<◌, ◌+◌, List, [], ◌∷◌, ◌++◌, length, refl, ap, arith}
use Rattle.std.specs.Prelude.{Some, slice_get, slice_set}

module _ {X : Type 0} where
  pub slice_get-front : (xs ys : List X) (i : ℕ) → i < length xs → slice_get (xs ++ ys) i ≡ slice_get xs i
  slice_get-front [] ys i h = absurd (omega arith)
  slice_get-front (x ∷ xs) ys zero h = refl
  slice_get-front (x ∷ xs) ys (suc i) h = slice_get-front xs ys i (omega arith)

  pub slice_get-back : (xs ys : List X) (i k : ℕ) → i ≡ length xs + k → slice_get (xs ++ ys) i ≡ slice_get ys k
  slice_get-back [] ys i k e = ap (slice_get ys) (let h : i ≡ 0 + k = e in omega arith)
  slice_get-back (x ∷ xs) ys zero k e = absurd (omega arith)
  slice_get-back (x ∷ xs) ys (suc i) k e = slice_get-back xs ys i k (omega arith)

  pub slice_get-appended : (xs : List X) (x : X) (i : ℕ) → i ≡ length xs → slice_get (xs ++ x ∷ []) i ≡ Some x
  slice_get-appended xs x i e = slice_get-back xs (x ∷ []) i 0 (omega arith)

  pub slice_get-set_same : (xs : List X) (x : X) (i : ℕ) → i < length xs → slice_get (slice_set xs i x) i ≡ Some x
  slice_get-set_same [] x i h = absurd (omega arith)
  slice_get-set_same (y ∷ xs) x zero h = refl
  slice_get-set_same (y ∷ xs) x (suc i) h = slice_get-set_same xs x i (omega arith)

  pub slice_get-set_other : (xs : List X) (x : X) (i j : ℕ) → j ≢ i → slice_get (slice_set xs i x) j ≡ slice_get xs j
  slice_get-set_other [] x i j ne = refl
  slice_get-set_other (y ∷ xs) x zero zero ne = absurd (ne refl)
  slice_get-set_other (y ∷ xs) x zero (suc j) ne = refl
  slice_get-set_other (y ∷ xs) x (suc i) zero ne = refl
  slice_get-set_other (y ∷ xs) x (suc i) (suc j) ne = slice_get-set_other xs x i j (λ e. ne (ap suc e))

-- Texts of the numbers of a range, one after another.
use Rattle.std.proofs.Common.{◌≡◌, ℕ, zero, ◌+◌, ◌-◌, ◌<◌, suc, List, [], ◌∷◌, ◌++◌, length, take, min, ◌∙◌, ap, refl, append_assoc, arith}
use Rattle.std.specs.Prelude.{flat_map, replicate}
use Rattle.std.specs.List.{range_with_len}

-- one further
pub numbers_more : (text : ℕ → List ℕ) (out : List ℕ) (k n : ℕ) (whole : List ℕ) → k < n → out ++ flat_map text (range_with_len k (n - k)) ≡ whole → (out ++ text k) ++ flat_map text (range_with_len (k + 1) (n - (k + 1))) ≡ whole
numbers_more text out k n whole inside h =
    let here : n - k ≡ suc (n - (k + 1)) = omega arith
    in append_assoc out (text k) (flat_map text (range_with_len (k + 1) (n - (k + 1)))) ∙ rw here at h

-- one space further
pub spaces_more : (out new : List ℕ) (k n : ℕ) (whole : List ℕ) → k < n → new ≡ out ++ 32 ∷ [] → out ++ replicate (n - k) 32 ≡ whole → new ++ replicate (n - (k + 1)) 32 ≡ whole
spaces_more out new k n whole inside is h =
    let here : n - k ≡ suc (n - (k + 1)) = omega arith
    in rw is (append_assoc out (32 ∷ []) (replicate (n - (k + 1)) 32) ∙ rw here at h)

-- what is taken ends where the list does
pub take_short : {A : Type 0} (n : ℕ) (xs : List A) → take (min n (length xs)) xs ≡ take n xs
take_short zero [] = refl
take_short zero (x ∷ xs) =
    let none : min zero (suc (length xs)) ≡ zero = grind arith in
    rw none refl
take_short (suc n) [] =
    let none : min (suc n) zero ≡ zero = grind arith in
    rw none refl
take_short (suc n) (x ∷ xs) =
    let step : min (suc n) (suc (length xs)) ≡ suc (min n (length xs)) = grind arith in
    rw step (ap (λ ys. x ∷ ys) (take_short n xs))

-- The chain of numbers on the stack as its list.
use Rattle.std.proofs.Common.{◌≡◌, List, [], ◌∷◌, ◌++◌, refl}
use Rattle.std.specs.Prelude.{ℤ}
use Rattle.carol_cert.specs.Columns.{last_number}

pub last_number-push : (zs : List ℤ) (z : ℤ) → last_number (zs ++ z ∷ []) ≡ z
last_number-push [] z = refl
last_number-push (y ∷ []) z = refl
last_number-push (y ∷ x ∷ zs) z = last_number-push (x ∷ zs) z

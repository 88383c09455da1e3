-- Elements of lists, and what holds of each.
use Rattle.std.proofs.Common.{◌≡◌, ℕ, ◌<◌, zero, suc, Bool, true, false, eqb, ◌||◌, List, [], ◌∷◌, ◌++◌, length, set, replicate, get_or, Some, inl, inr, refl, subst, arith}
use Rattle.std.specs.Prelude.{slice_get}
use Rattle.std.specs.List.{AllByRecursion}
use Rattle.std.proofs.lemmas.Bool.{cases_eq, eq-eqb, ne_eqb}
use Rattle.std.proofs.lemmas.List.{get_or-set_same, get_or-set_other}

module _ {X : Type 0} (P : X → Type 0) where
  -- what holds of each element, and of one that is pushed
  pub AllByRecursion-push : (xs : List X) (x : X) → AllByRecursion P xs → P x → AllByRecursion P (xs ++ x ∷ [])
  AllByRecursion-push [] x h p = (p, tt)
  AllByRecursion-push (y ∷ ys) x h p = (h.0, AllByRecursion-push ys x h.1 p)

  -- of one that is written
  pub AllByRecursion-set : (xs : List X) (i : ℕ) (x : X) → AllByRecursion P xs → P x → AllByRecursion P (set xs i x)
  AllByRecursion-set [] i x h p = tt
  AllByRecursion-set (y ∷ ys) zero x h p = (p, h.1)
  AllByRecursion-set (y ∷ ys) (suc i) x h p = (h.0, AllByRecursion-set ys i x h.1 p)

  -- so it holds of any of them
  pub AllByRecursion-at : (xs : List X) (i : ℕ) (x : X) → AllByRecursion P xs → slice_get xs i ≡ Some x → P x
  AllByRecursion-at [] i x h at = absurd (cc)
  AllByRecursion-at (y ∷ ys) zero x h at = let e : y ≡ x = cc in subst P e h.0
  AllByRecursion-at (y ∷ ys) (suc i) x h at = AllByRecursion-at ys i x h.1 at

  -- of one that is there
  pub AllByRecursion-get : (xs : List X) (i : ℕ) (d : X) → AllByRecursion P xs → i < length xs → P (get_or xs i d)
  AllByRecursion-get [] i d h inside = absurd (omega arith)
  AllByRecursion-get (y ∷ ys) zero d h inside = h.0
  AllByRecursion-get (y ∷ ys) (suc i) d h inside = AllByRecursion-get ys i d h.1 (omega arith)

-- an element of many equal ones
pub get_or-false : (n i : ℕ) → get_or (replicate n false) i false ≡ false
get_or-false zero i = refl
get_or-false (suc n) zero = refl
get_or-false (suc n) (suc i) = get_or-false n i

-- a flag that was set
pub get_or-flag : (flags : List Bool) (i j : ℕ) → i < length flags → get_or (set flags i true) j false ≡ (eqb i j || get_or flags j false)
get_or-flag flags i j h = elim (cases_eq i j) [
  | inl e ↦ let hit : eqb i j ≡ true = eq-eqb i j e in rw (hit, ← e) (get_or-set_same flags i true false h)
  | inr apart ↦ let miss : eqb i j ≡ false = ne_eqb i j apart in rw miss (get_or-set_other flags i j true false (λ e. apart (omega arith)))
]

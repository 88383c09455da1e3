-- Two splits of one list.
use Rattle.std.proofs.Common.{◌≡◌, ◌⊎◌, List, [], ◌∷◌, ◌++◌, refl, inl, inr}

-- an element stands behind some of a list
abbrev pub Behind : {A : Type 0} → List A → List A → A → Type 0
Behind xs ys t = (q : List _) × (xs ≡ ys ++ t ∷ q)

-- both split at one place
abbrev pub Same : {A : Type 0} → List A → List A → A → A → List A → List A → Type 0
Same xs ys s t us vs = (xs ≡ ys) × (s ≡ t) × (us ≡ vs)

same_first : {A : Type 0} (x y : A) (xs ys : List A) → x ≡ y → xs ≡ ys → x ∷ xs ≡ y ∷ ys
same_first x y xs ys e f = cc (e, f)

more_split : {A : Type 0} (x y : A) (xs ys : List A) (s t : A) (us vs : List A) → x ≡ y → Behind xs ys t ⊎ (Same xs ys s t us vs ⊎ Behind ys xs s) → Behind (x ∷ xs) (y ∷ ys) t ⊎ (Same (x ∷ xs) (y ∷ ys) s t us vs ⊎ Behind (y ∷ ys) (x ∷ xs) s)
more_split x y xs ys s t us vs e (inl h) = inl (h.0, same_first x y xs (ys ++ t ∷ h.0) e h.1)
more_split x y xs ys s t us vs e (inr (inl h)) = inr (inl (same_first x y xs ys e h.0, h.1, h.2))
more_split x y xs ys s t us vs e (inr (inr h)) = let f : y ≡ x = cc in inr (inr (h.0, same_first y x ys (xs ++ s ∷ h.0) f h.1))

-- the first split is behind the second, at the same place, or before it
pub compare_splits : {A : Type 0} (xs ys : List A) (s t : A) (us vs : List A) → xs ++ s ∷ us ≡ ys ++ t ∷ vs → Behind xs ys t ⊎ (Same xs ys s t us vs ⊎ Behind ys xs s)
compare_splits [] [] s t us vs e = let f : s ≡ t = cc in let g : us ≡ vs = cc in inr (inl (refl, f, g))
compare_splits [] (y ∷ ys) s t us vs e = let f : y ≡ s = cc in inr (inr (ys, same_first y s ys ys f refl))
compare_splits (x ∷ xs) [] s t us vs e = let f : x ≡ t = cc in inl (xs, same_first x t xs xs f refl)
compare_splits (x ∷ xs) (y ∷ ys) s t us vs e =
    let f : x ≡ y = cc in
    let g : xs ++ s ∷ us ≡ ys ++ t ∷ vs = cc in
    more_split x y xs ys s t us vs f (compare_splits xs ys s t us vs g)

more_left : {A : Type 0} (x f : A) (xs ys front : List A) (t : A) (more : List A) → x ≡ f → Behind xs front t ⊎ ((q : List A) × (ys ≡ q ++ t ∷ more)) → Behind (x ∷ xs) (f ∷ front) t ⊎ ((q : List A) × (ys ≡ q ++ t ∷ more))
more_left x f xs ys front t more e (inl h) = inl (h.0, same_first x f xs (front ++ t ∷ h.0) e h.1)
more_left x f xs ys front t more e (inr h) = inr h

-- an element of two joined lists stands in the one or in the other
pub in_joined : {A : Type 0} (xs ys front : List A) (t : A) (more : List A) → xs ++ ys ≡ front ++ t ∷ more → Behind xs front t ⊎ ((q : List A) × (ys ≡ q ++ t ∷ more))
in_joined [] ys front t more e = inr (front, e)
in_joined (x ∷ xs) ys [] t more e = let f : x ≡ t = cc in inl (xs, same_first x t xs xs f refl)
in_joined (x ∷ xs) ys (y ∷ front) t more e =
    let f : x ≡ y = cc in
    let g : xs ++ ys ≡ front ++ t ∷ more = cc in
    more_left x y xs ys front t more f (in_joined xs ys front t more g)

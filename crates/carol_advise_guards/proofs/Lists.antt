-- What holds of each item of lists, and what is one of them.
use Rattle.std.proofs.Common.{◌≡◌, ◌<◌, ℕ, zero, suc, List, [], ◌∷◌, ◌++◌, length, get_or, map, refl, sym, ap, subst, inl, inr}
use Rattle.std.specs.Prelude.{◌⊎◌}
use Rattle.std.specs.List.{AllByRecursion, Contains}
use Rattle.std.proofs.lemmas.List.Elements.{Contains-append_left, Contains-append_right, Contains-push}

pub all-append : {A : Type 0} (P : A → Type 0) (xs ys : List A) → AllByRecursion P xs → AllByRecursion P ys → AllByRecursion P (xs ++ ys)
all-append P [] ys h k = k
all-append P (x ∷ xs) ys h k = (h.0, all-append P xs ys h.1 k)

pub all-first : {A : Type 0} (P : A → Type 0) (xs ys : List A) → AllByRecursion P (xs ++ ys) → AllByRecursion P xs
all-first P [] ys h = tt
all-first P (x ∷ xs) ys h = (h.0, all-first P xs ys h.1)

pub all-second : {A : Type 0} (P : A → Type 0) (xs ys : List A) → AllByRecursion P (xs ++ ys) → AllByRecursion P ys
all-second P [] ys h = h
all-second P (x ∷ xs) ys h = all-second P xs ys h.1

pub all-map : {A B : Type 0} (P : B → Type 0) (f : A → B) (xs : List A) → AllByRecursion (λ x. P (f x)) xs → AllByRecursion P (map f xs)
all-map P f [] h = tt
all-map P f (x ∷ xs) h = (h.0, all-map P f xs h.1)

pub all_from-map : {A B : Type 0} (P : B → Type 0) (f : A → B) (xs : List A) → AllByRecursion P (map f xs) → AllByRecursion (λ x. P (f x)) xs
all_from-map P f [] h = tt
all_from-map P f (x ∷ xs) h = (h.0, all_from-map P f xs h.1)

pub all_both : {A : Type 0} (P Q : A → Type 0) → ((x : A) → P x → Q x) → (xs : List A) → AllByRecursion P xs → AllByRecursion Q xs
all_both P Q h [] all = tt
all_both P Q h (x ∷ xs) all = (h x all.0, all_both P Q h xs all.1)

pub all_any : {A : Type 0} (P : A → Type 0) → ((x : A) → P x) → (xs : List A) → AllByRecursion P xs
all_any P h [] = tt
all_any P h (x ∷ xs) = (h x, all_any P h xs)

-- ---- one of a list

abbrev pub IsIn : {A : Type 0} → A → List A → Type 0
IsIn x [] = ⊥
IsIn x (y ∷ ys) = (y ≡ x) ⊎ IsIn x ys

pub in_left : {A : Type 0} (x : A) (xs ys : List A) → IsIn x xs → IsIn x (xs ++ ys)
in_left x [] ys h = absurd h
in_left x (y ∷ xs) ys (inl e) = inl e
in_left x (y ∷ xs) ys (inr h) = inr (in_left x xs ys h)

pub in_right : {A : Type 0} (x : A) (xs ys : List A) → IsIn x ys → IsIn x (xs ++ ys)
in_right x [] ys h = h
in_right x (y ∷ xs) ys h = inr (in_right x xs ys h)

pub in_map : {A B : Type 0} (f : A → B) (x : A) (xs : List A) → IsIn x xs → IsIn (f x) (map f xs)
in_map f x [] h = absurd h
in_map f x (y ∷ xs) (inl e) = inl (ap f e)
in_map f x (y ∷ xs) (inr h) = inr (in_map f x xs h)

pub of_in : {A : Type 0} (P : A → Type 0) (x : A) (xs : List A) → AllByRecursion P xs → IsIn x xs → P x
of_in P x [] all h = absurd h
of_in P x (y ∷ xs) all (inl e) = subst P e all.0
of_in P x (y ∷ xs) all (inr h) = of_in P x xs all.1 h

contains_first : {A : Type 0} (x y : A) (xs : List A) → y ≡ x → Contains (y ∷ xs) x
contains_first x y xs e = subst (λ z. Contains (z ∷ xs) x) (sym e) (Contains-append_left (x ∷ []) xs x (Contains-push [] x))

pub contains_in : {A : Type 0} (x : A) (xs : List A) → IsIn x xs → Contains xs x
contains_in x [] h = absurd h
contains_in x (y ∷ xs) (inl e) = contains_first x y xs e
contains_in x (y ∷ xs) (inr h) = Contains-append_right (y ∷ []) xs x (contains_in x xs h)

-- ---- the item at a place, or another

pub at_or : (P : ℕ → Type 0) (xs : List ℕ) (k other : ℕ) → AllByRecursion P xs → P other → P (get_or xs k other)
at_or P [] k other all h = h
at_or P (x ∷ xs) zero other all h = all.0
at_or P (x ∷ xs) (suc k) other all h = at_or P xs k other all.1 h

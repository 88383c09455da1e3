-- Lists of which something holds of each item, or of the first that isn't passed over.
use Rattle.std.proofs.Common.{List, [], ◌∷◌, ◌++◌, inl, inr}
use Rattle.std.specs.Prelude.{map}
use Rattle.std.specs.List.{AllByRecursion}
use Rattle.carol_typecheck.specs.First.{First}

pub first-append : {A : Type 0} (Passed Found : A → Type 0) (xs ys : List A) → First Passed Found xs → First Passed Found (xs ++ ys)
first-append Passed Found [] ys h = absurd h
first-append Passed Found (x ∷ xs) ys (inl found) = inl found
first-append Passed Found (x ∷ xs) ys (inr rest) = inr (rest.0, first-append Passed Found xs ys rest.1)

pub first_behind : {A : Type 0} (Passed Found : A → Type 0) (xs ys : List A) → AllByRecursion Passed xs → First Passed Found ys → First Passed Found (xs ++ ys)
first_behind Passed Found [] ys passed h = h
first_behind Passed Found (x ∷ xs) ys passed h = inr (passed.0, first_behind Passed Found xs ys passed.1 h)

-- where each item that passes by the one test passes by the other
pub all_as : {A : Type 0} (Passed Safe : A → Type 0) (xs : List A) → AllByRecursion (λ x. Passed x → Safe x) xs → AllByRecursion Passed xs → AllByRecursion Safe xs
all_as Passed Safe [] h all = tt
all_as Passed Safe (x ∷ xs) h all = (h.0 all.0, all_as Passed Safe xs h.1 all.1)

pub first_as : {A B : Type 0} (f : A → B) (Passed Found : B → Type 0) (Safe Told : A → Type 0) (xs : List A) → AllByRecursion (λ x. (Passed (f x) → Safe x) × (Found (f x) → Told x)) xs → First Passed Found (map f xs) → First Safe Told xs
first_as f Passed Found Safe Told [] h first = first
first_as f Passed Found Safe Told (x ∷ xs) h (inl found) = inl (h.0.1 found)
first_as f Passed Found Safe Told (x ∷ xs) h (inr rest) = inr (h.0.0 rest.0, first_as f Passed Found Safe Told xs h.1 rest.1)

pub first_none : {A : Type 0} (Passed Found : A → Type 0) (xs : List A) → AllByRecursion (λ x. Found x → ⊥) xs → First Passed Found xs → ⊥
first_none Passed Found [] none first = first
first_none Passed Found (x ∷ xs) none (inl found) = none.0 found
first_none Passed Found (x ∷ xs) none (inr rest) = first_none Passed Found xs none.1 rest.1

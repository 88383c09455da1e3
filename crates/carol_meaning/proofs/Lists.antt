-- Lists that are empty, what holds of each item of a list, and lengths.
use Rattle.std.proofs.Common.{◌≡◌, ℕ, zero, suc, ◌+◌, ◌≤◌, Bool, true, false, List, [], ◌∷◌, ◌++◌, map, length, arith, refl, ap, length-append}
use Rattle.std.specs.Prelude.{Some, if◌then◌else◌, slice_get}
use Rattle.std.specs.List.{AllByRecursion, flat_map}
use Rattle.carol_syntax.specs.declared.places.Ident.{Ident}
use Rattle.carol_meaning.specs.Declarations.{too_many}

-- ---- nothing of a whole is nothing of its parts

pub first-none : {A : Type 0} (xs ys : List A) → xs ++ ys ≡ [] → xs ≡ []
first-none [] ys h = refl
first-none (x ∷ xs) ys h = cc

pub second-none : {A : Type 0} (xs ys : List A) → xs ++ ys ≡ [] → ys ≡ []
second-none [] ys h = h
second-none (x ∷ xs) ys h = cc

-- a part of what is nothing is nothing
pub ruleset no_part = (first-none, second-none)

pub each-none : {A B : Type 0} (f : A → List B) (xs : List A) → flat_map f xs ≡ [] → AllByRecursion (λ x. f x ≡ []) xs
each-none f [] h = tt
each-none f (x ∷ xs) h = (first-none (f x) (flat_map f xs) h, each-none f xs (second-none (f x) (flat_map f xs) h))

-- where none is one too many, there are no more than the most
pub few : (most : ℕ) (names : List Ident) → too_many most names ≡ [] → length names ≤ most
few most [] h = omega arith
few zero (i ∷ names) h = cc
few (suc most) (i ∷ names) h = omega (arith, few most names h)

-- a test that decides between nothing and something
pub passed-test : {A : Type 0} (b : Bool) (x : A) (xs : List A) → (if b then [] else (x ∷ xs)) ≡ [] → b ≡ true
passed-test true x xs h = refl
passed-test false x xs h = cc

pub failed-test : {A : Type 0} (b : Bool) (x : A) (xs : List A) → (if b then (x ∷ xs) else []) ≡ [] → b ≡ false
failed-test true x xs h = cc
failed-test false x xs h = refl

-- ---- each item

pub All-append : {A : Type 0} (P : A → Type 0) (xs ys : List A) → AllByRecursion P xs → AllByRecursion P ys → AllByRecursion P (xs ++ ys)
All-append P [] ys a b = b
All-append P (x ∷ xs) ys a b = (a.0, All-append P xs ys a.1 b)

pub All-each : {A : Type 0} (P Q : A → Type 0) → ((x : A) → P x → Q x) → (xs : List A) → AllByRecursion P xs → AllByRecursion Q xs
All-each P Q step [] a = tt
All-each P Q step (x ∷ xs) a = (step x a.0, All-each P Q step xs a.1)

pub All-map : {A B : Type 0} (P : A → Type 0) (Q : B → Type 0) (f : A → B) → ((x : A) → P x → Q (f x)) → (xs : List A) → AllByRecursion P xs → AllByRecursion Q (map f xs)
All-map P Q f step [] a = tt
All-map P Q f step (x ∷ xs) a = (step x a.0, All-map P Q f step xs a.1)

pub All-both : {A : Type 0} (P Q : A → Type 0) (xs : List A) → AllByRecursion P xs → AllByRecursion Q xs → AllByRecursion (λ x. P x × Q x) xs
All-both P Q [] a b = tt
All-both P Q (x ∷ xs) a b = ((a.0, b.0), All-both P Q xs a.1 b.1)

pub either-way : {A : Type 0} (P : A → Type 0) (b : Bool) (x y : A) → P x → P y → P (if b then x else y)
either-way P true x y h k = h
either-way P false x y h k = k

-- ---- lengths

-- lists of pieces that are as long as one another are so too
pub same_lengths : {A B C : Type 0} (f : A → List B) (g : A → List C) → ((x : A) → length (f x) ≡ length (g x)) → (xs : List A) → length (flat_map f xs) ≡ length (flat_map g xs)
same_lengths f g same [] = refl
same_lengths f g same (x ∷ xs) = omega (arith, length-append (f x) (flat_map f xs), length-append (g x) (flat_map g xs), same x, same_lengths f g same xs)

-- ---- items by their place

pub at-left : {A : Type 0} (xs ys : List A) (i : ℕ) (x : A) → slice_get xs i ≡ Some x → slice_get (xs ++ ys) i ≡ Some x
at-left [] ys i x h = cc
at-left (y ∷ xs) ys zero x h = h
at-left (y ∷ xs) ys (suc i) x h = at-left xs ys i x h

pub at-right : {A : Type 0} (xs ys : List A) (i : ℕ) → slice_get (xs ++ ys) (length xs + i) ≡ slice_get ys i
at-right [] ys i = ap (λ n. slice_get ys n) zero_plus
  where
    zero_plus : 0 + i ≡ i
    zero_plus = omega arith
at-right (x ∷ xs) ys i = rw one_more (at-right xs ys i)
  where
    one_more : suc (length xs) + i ≡ suc (length xs + i)
    one_more = omega arith

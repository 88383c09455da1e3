-- Where a variable's number stands in a valuation.
use Rattle.std.proofs.Common.{ℕ, ◌+◌, ◌-◌, ◌<◌, ◌≤◌, ◌≡◌, List, [], ◌∷◌, ◌++◌, length, take, drop, set, append_assoc, length-append, arith, refl, sym, ◌∙◌, ap, subst}
use Rattle.std.specs.Prelude.{if◌then◌else◌, ℤ}
use Rattle.std.specs.List.{insert}
use Rattle.carol_formula.specs.Linear.{AscendsFrom}
use Rattle.carol_formula.specs.Numbers.{number_at, with_number}
use Rattle.carol_formula.proofs.Orders.{by_order}
use Rattle.carol_formula.proofs.Merging.{nothing}

-- ---- a number

-- none of the numbers that are passed is of the variable
pub record Looking (v : ℕ) (whole left : List (ℕ × ℤ)) : Type 0 where
  pub is : number_at left v ≡ number_at whole v

-- ---- a place

-- each variable is before this one
abbrev pub AllBefore : ℕ → List (ℕ × ℤ) → Type 0
AllBefore v [] = Unit {0}
AllBefore v (p ∷ ps) = (p.0 < v) × AllBefore v ps

-- what is passed, all of it before the variable
pub record Placing (v : ℕ) (whole left : List (ℕ × ℤ)) : Type 0 where
  pub front : List (ℕ × ℤ)
  pub before : AllBefore v front
  pub is : whole ≡ front ++ left

AllBefore-append : (v : ℕ) (xs ys : List (ℕ × ℤ)) → AllBefore v xs → AllBefore v ys → AllBefore v (xs ++ ys)
AllBefore-append v [] ys a b = b
AllBefore-append v (x ∷ xs) ys a b = (a.0, AllBefore-append v xs ys a.1 b)

pub place_step : (v : ℕ) (whole left : List (ℕ × ℤ)) (p : ℕ × ℤ) (more : List (ℕ × ℤ)) → Placing v whole left → left ≡ p ∷ more → p.0 < v → Placing v whole more
place_step v whole left p more s e h = record { front = s.front ++ p ∷ []; before = AllBefore-append v s.front (p ∷ []) s.before (h, tt); is = s.is ∙ ap (λ zs. s.front ++ zs) e ∙ sym (append_assoc s.front (p ∷ []) more) }

with_number-append : (v : ℕ) (number : ℤ) (xs ys : List (ℕ × ℤ)) → AllBefore v xs → with_number v number (xs ++ ys) ≡ xs ++ with_number v number ys
with_number-append v number [] ys a = refl
with_number-append v number (x ∷ xs) ys a = by_order v x.0 (λ b c. (if b then ((v, number) ∷ x ∷ (xs ++ ys)) else if c then ((v, number) ∷ (xs ++ ys)) else (x ∷ with_number v number (xs ++ ys))) ≡ x ∷ (xs ++ with_number v number ys))
    (λ h. absurd (omega (arith, h, a.0))) (λ e. absurd (omega (arith, e, a.0))) (λ _. ap (λ zs. x ∷ zs) (with_number-append v number xs ys a.1))

with_number-same : (v : ℕ) (number : ℤ) (p : ℕ × ℤ) (more : List (ℕ × ℤ)) → p.0 ≡ v → with_number v number (p ∷ more) ≡ (v, number) ∷ more
with_number-same v number p more e = by_order v p.0 (λ b c. (if b then ((v, number) ∷ p ∷ more) else if c then ((v, number) ∷ more) else (p ∷ with_number v number more)) ≡ (v, number) ∷ more)
    (λ h. absurd (omega (arith, h, e))) (λ _. refl) (λ h. absurd (omega (arith, h, e)))

with_number-below : (v : ℕ) (number : ℤ) (p : ℕ × ℤ) (more : List (ℕ × ℤ)) → v < p.0 → with_number v number (p ∷ more) ≡ (v, number) ∷ p ∷ more
with_number-below v number p more l = by_order v p.0 (λ b c. (if b then ((v, number) ∷ p ∷ more) else if c then ((v, number) ∷ more) else (p ∷ with_number v number more)) ≡ (v, number) ∷ p ∷ more)
    (λ _. refl) (λ e. absurd (omega (arith, l, e))) (λ h. absurd (omega (arith, l, h)))

set-append : (xs : List (ℕ × ℤ)) (p x : ℕ × ℤ) (ys : List (ℕ × ℤ)) → set (xs ++ p ∷ ys) (length xs) x ≡ xs ++ x ∷ ys
set-append [] p x ys = refl
set-append (y ∷ xs) p x ys = ap (λ zs. y ∷ zs) (set-append xs p x ys)

take-front : (xs ys : List (ℕ × ℤ)) → take (length xs) (xs ++ ys) ≡ xs
take-front [] ys = refl
take-front (x ∷ xs) ys = ap (λ zs. x ∷ zs) (take-front xs ys)

drop-front : (xs ys : List (ℕ × ℤ)) → drop (length xs) (xs ++ ys) ≡ ys
drop-front [] ys = refl
drop-front (x ∷ xs) ys = drop-front xs ys

insert-append : (xs : List (ℕ × ℤ)) (x : ℕ × ℤ) (ys : List (ℕ × ℤ)) → insert (xs ++ ys) (length xs) x ≡ xs ++ x ∷ ys
insert-append xs x ys = ap (λ zs. zs ++ x ∷ drop (length xs) (xs ++ ys)) (take-front xs ys) ∙ ap (λ zs. xs ++ x ∷ zs) (drop-front xs ys)

pub place_index : (v : ℕ) (whole left : List (ℕ × ℤ)) → Placing v whole left → (length whole - length left) + length left ≡ length whole
place_index v whole left s = omega (arith, ap length s.is, length-append s.front left)

index_is : (v : ℕ) (whole left : List (ℕ × ℤ)) (i : ℕ) (s : Placing v whole left) → i + length left ≡ length whole → i ≡ length s.front
index_is v whole left i s e = omega (arith, e, ap length s.is, length-append s.front left)

pub place_found : (v : ℕ) (whole left : List (ℕ × ℤ)) (p : ℕ × ℤ) (more : List (ℕ × ℤ)) (i : ℕ) → Placing v whole left → left ≡ p ∷ more → p.0 ≡ v → i + length left ≡ length whole → (i < length whole) × ((number : ℤ) → with_number v number whole ≡ set whole i (v, number))
place_found v whole left p more i s e g n = (omega (arith, n, ap length e), λ number. ap (with_number v number) at_p ∙ with_number-append v number s.front (p ∷ more) s.before ∙ ap (λ zs. s.front ++ zs) (with_number-same v number p more g) ∙ sym (ap (λ zs. set zs i (v, number)) at_p ∙ ap (λ j. set (s.front ++ p ∷ more) j (v, number)) (index_is v whole left i s n) ∙ set-append s.front p (v, number) more))
  where
    at_p : whole ≡ s.front ++ p ∷ more
    at_p = s.is ∙ ap (λ zs. s.front ++ zs) e

inserted : (v : ℕ) (whole left : List (ℕ × ℤ)) (i : ℕ) (s : Placing v whole left) → i + length left ≡ length whole → ((number : ℤ) → with_number v number left ≡ (v, number) ∷ left) → (i ≤ length whole) × ((number : ℤ) → with_number v number whole ≡ insert whole i (v, number))
inserted v whole left i s n h = (omega (arith, n), λ number. ap (with_number v number) s.is ∙ with_number-append v number s.front left s.before ∙ ap (λ zs. s.front ++ zs) (h number) ∙ sym (ap (λ zs. insert zs i (v, number)) s.is ∙ ap (λ j. insert (s.front ++ left) j (v, number)) (index_is v whole left i s n) ∙ insert-append s.front (v, number) left))

pub place_before : (v : ℕ) (whole left : List (ℕ × ℤ)) (p : ℕ × ℤ) (more : List (ℕ × ℤ)) (i : ℕ) → Placing v whole left → left ≡ p ∷ more → v < p.0 → i + length left ≡ length whole → (i ≤ length whole) × ((number : ℤ) → with_number v number whole ≡ insert whole i (v, number))
place_before v whole left p more i s e l n = inserted v whole left i s n (λ number. ap (with_number v number) e ∙ with_number-below v number p more l ∙ ap (λ zs. (v, number) ∷ zs) (sym e))

pub place_end : (v : ℕ) (whole left : List (ℕ × ℤ)) (i : ℕ) → Placing v whole left → length left ≡ 0 → i ≡ length whole → (i ≤ length whole) × ((number : ℤ) → with_number v number whole ≡ insert whole i (v, number))
place_end v whole left i s e n = inserted v whole left i s (omega (arith, e, n)) (λ number. ap (with_number v number) (nothing left e) ∙ ap (λ zs. (v, number) ∷ zs) (sym (nothing left e)))

-- ---- order

pub AscendsFrom-with_number : (low v : ℕ) (number : ℤ) (ps : List (ℕ × ℤ)) → low ≤ v → AscendsFrom low ps → AscendsFrom low (with_number v number ps)
AscendsFrom-with_number low v number [] h a = (h, tt)
AscendsFrom-with_number low v number (p ∷ ps) h a = by_order v p.0 (λ b c. AscendsFrom low (if b then ((v, number) ∷ p ∷ ps) else if c then ((v, number) ∷ ps) else (p ∷ with_number v number ps)))
    (λ l. (h, (omega (arith, l), a.1)))
    (λ e. (h, subst (λ n. AscendsFrom (n + 1) ps) (sym e) a.1))
    (λ g. (a.0, AscendsFrom-with_number (p.0 + 1) v number ps (omega (arith, g)) a.1))

-- a number put into its place, or inserted there
pub set_ascends : (v i : ℕ) (number : ℤ) (xs ys : List (ℕ × ℤ)) → xs ≡ ys → AscendsFrom 0 ys → ((n : ℤ) → with_number v n xs ≡ set xs i (v, n)) → AscendsFrom 0 (set ys i (v, number))
set_ascends v i number xs ys e a h = subst (λ zs. AscendsFrom 0 (set zs i (v, number))) e (subst (AscendsFrom 0) (h number) (AscendsFrom-with_number 0 v number xs (omega arith) (subst (AscendsFrom 0) (sym e) a)))

pub inserted_ascends : (v i : ℕ) (number : ℤ) (xs ys zs : List (ℕ × ℤ)) → xs ≡ ys → AscendsFrom 0 ys → ((n : ℤ) → with_number v n xs ≡ insert xs i (v, n)) → zs ≡ insert ys i (v, number) → AscendsFrom 0 zs
inserted_ascends v i number xs ys zs e a h g = subst (AscendsFrom 0) (sym g) (subst (λ ws. AscendsFrom 0 (insert ws i (v, number))) e (subst (AscendsFrom 0) (h number) (AscendsFrom-with_number 0 v number xs (omega arith) (subst (AscendsFrom 0) (sym e) a))))

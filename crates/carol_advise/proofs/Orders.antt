-- The order of assignments: nothing stands before itself, and not two before one another.
use Rattle.std.proofs.Common.{◌≡◌, ◌<◌, ◌≤◌, ℕ, zero, suc, List, [], ◌∷◌, ◌++◌, length, refl, sym, ◌∙◌, ap, subst, inl, inr, arith, append_assoc}
use Rattle.std.specs.Prelude.{◌⊎◌}
use Rattle.std.specs.List.{All, AllByRecursion, Contains}
use Rattle.std.proofs.lemmas.List.Elements.{All-contains, All-from_recursion, Contains-append_cases, Contains-push_cases}
use Rattle.carol_program.specs.Accords.{Accords}
use Rattle.carol_advise_guards.specs.Bars.{bars}
use Rattle.carol_advise_guards.specs.Order.{Ascends, IsBefore, IsLess, IsOrdered}
use Rattle.carol_advise_guards.specs.Under.{IsAssignment}
use Rattle.carol_advise_guards.proofs.Lists.{all-first, all-second}

less_other : (gs hs : List ℕ) → IsLess gs hs → IsLess hs gs → ⊥
less_other [] hs h k = h
less_other (g ∷ gs) [] h k = h
less_other (g ∷ gs) (x ∷ hs) (inl h) (inl k) = omega arith
less_other (g ∷ gs) (x ∷ hs) (inl h) (inr k) = omega (arith, k.0)
less_other (g ∷ gs) (x ∷ hs) (inr h) (inl k) = omega (arith, h.0)
less_other (g ∷ gs) (x ∷ hs) (inr h) (inr k) = less_other gs hs h.1 k.1

pub before_other : (table : Accords) (gs hs : List ℕ) → IsBefore table gs hs → IsBefore table hs gs → ⊥
before_other table gs hs (inl h) (inl k) = omega arith
before_other table gs hs (inl h) (inr k) = omega (arith, k.0)
before_other table gs hs (inr h) (inl k) = omega (arith, h.0)
before_other table gs hs (inr h) (inr k) = less_other gs hs h.1 k.1

-- ---- parts of a list in order

pub ascends-second : (table : Accords) (xs ys : List (List ℕ)) → Ascends table (xs ++ ys) → Ascends table ys
ascends-second table [] ys h = h
ascends-second table (x ∷ xs) ys h = ascends-second table xs ys h.1

pub ascends-first : (table : Accords) (xs ys : List (List ℕ)) → Ascends table (xs ++ ys) → Ascends table xs
ascends-first table [] ys h = tt
ascends-first table (x ∷ xs) ys h = (all-first (IsBefore table x) xs ys h.0, ascends-first table xs ys h.1)

none_in : {A : Type 0} (x : A) → Contains [] x → ⊥
none_in x h = omega (arith, h.1)

-- what stands before one of them is among those that are listed before it
pub listed_before : (table : Accords) (guards slots : ℕ) (list before after : List (List ℕ)) (gs hs : List ℕ) → IsOrdered table guards slots list → before ++ (gs ∷ after) ≡ list
    → IsAssignment guards slots hs → IsBefore table hs gs → Contains before hs
listed_before table guards slots list before after gs hs ordered whole assigns less =
    let there : Contains (before ++ (gs ∷ after)) hs = subst (λ xs. Contains xs hs) (sym whole) (ordered.all hs assigns) in
    let ascends : Ascends table (gs ∷ after) = ascends-second table before (gs ∷ after) (subst (Ascends table) (sym whole) ordered.ascends) in
    elim (Contains-append_cases before (gs ∷ after) hs there) [
      | inl h ↦ h
      | inr h ↦ absurd (elim (Contains-append_cases (gs ∷ []) after hs h) [
        | inl k ↦ elim (Contains-push_cases [] gs hs k) [
          | inl none ↦ none_in hs none
          | inr same ↦ before_other table hs gs less (subst (λ xs. IsBefore table xs hs) (sym same) (subst (λ xs. IsBefore table hs xs) same less))
        ]
        | inr k ↦ before_other table gs hs (All-contains (IsBefore table gs) after hs (All-from_recursion (IsBefore table gs) after ascends.0) k) less
      ])
    ]

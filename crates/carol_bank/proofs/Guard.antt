-- The bank's guard is true of two equal stores, and nothing that is asked of it stays open.
use Rattle.std.proofs.Common.{◌≡◌, ℕ, zero, suc, Bool, true, false, inl, inr, List, [], ◌∷◌, ◌++◌, length, length-append, refl, ap, subst, lit≤, arith}
use Rattle.std.specs.Prelude.{ℤ, pos, negsuc, ◌+ℤ◌, ◌*ℤ◌, ◌≤ℤ◌, Some, slice_get}
use Rattle.std.proofs.lemmas.Int.{ints}
use Rattle.carol_store.specs.declared.shape.CellKind.{CellKind}
use Rattle.carol_store.specs.declared.shape.CellKind.TheVariants.{Counter, Peak, Flag}
use Rattle.carol_store.specs.Kinds.{CellValue}
use Rattle.carol_formula.specs.Claim.{Claim, True, without_not, truth}
use Rattle.carol_formula.proofs.Claims.{is_at_most_zero_from}
use Rattle.carol_decide.specs.declared.answer.Why.{Why}
use Rattle.carol_decide.specs.Answer.{IsStuck}
use Rattle.carol_program.specs.declared.places.Place.{Place}
use Rattle.carol_program.specs.declared.places.Place.TheVariants.{Reflexive, Accord}
use Rattle.carol_program.specs.Variables.{number_in, number_in_two}
use Rattle.carol_reading.specs.Good.{IsReflexive}
use Rattle.carol_accord.specs.Broken.{here_of}
use Rattle.carol_accord.specs.Formed.{equal_claim, step_claim}
use Rattle.carol_accord.specs.Inferred.{ComesTo, IsNotReflexive, IsOpenAt, step_of}
use Rattle.carol_meaning.specs.Programs.{rules_of}
use Rattle.carol_generator.specs.Generated.{bank}

abbrev first_of : List Claim → Claim
first_of [] = True
first_of (c ∷ cs) = c

-- the one guard
abbrev low : Claim
low = first_of (rules_of bank).guards

only : (c d : Claim) (earlier later : List Claim) → c ∷ [] ≡ earlier ++ d ∷ later → d ≡ c
only c d [] later e = cc
only c d (x ∷ earlier) later e =
    let n : length (c ∷ []) ≡ length (x ∷ (earlier ++ d ∷ later)) = ap length e in
    absurd (omega (arith, n, length-append earlier (d ∷ later)))

is_low : (number : ℕ) (guard : Claim) → ComesTo (rules_of bank) number guard → guard ≡ low
is_low number guard c = only low guard c.earlier c.later c.order

-- Two equal stores.

no_difference : (z : ℤ) → (((pos 1 *ℤ z) +ℤ ((negsuc 0 *ℤ z) +ℤ pos 0)) +ℤ pos 0) ≤ℤ pos 0
no_difference z = omega (arith, ints)

low_same : (store : List CellValue) → truth low (number_in_two store store) ≡ true
low_same store = is_at_most_zero_from _ (no_difference (number_in store 0))

pub low_reflexive : IsReflexive (rules_of bank) low
low_reflexive = record { each = λ store s. low_same store }

pub not_reflexive : (number : ℕ) (f : ℕ → ℤ) → IsNotReflexive (rules_of bank) number f → ⊥
not_reflexive number f h =
    let here : List CellValue = here_of (rules_of bank).shape f in
    let fails : truth low (number_in_two here here) ≡ false = subst (λ z. truth z (number_in_two here here) ≡ false) (is_low number h.guard h.first) h.breaks.fails in
    let holds : truth low (number_in_two here here) ≡ true = low_same here in
    cc

-- What stays open.

equal_closed : (why : Why) → IsStuck (without_not true (equal_claim (rules_of bank).shape low)) why → ⊥
equal_closed why s = s.beyond (tt, tt) (lit≤ tt)

-- a step of the one cell, which is a counter
step_closed : (cell : ℕ) (up : Bool) (kind : CellKind) (why : Why) → slice_get (rules_of bank).shape cell ≡ Some kind → IsStuck (without_not true (step_claim (rules_of bank).shape low kind (step_of cell up))) why → ⊥
step_closed (suc cell) up kind why e s = absurd cc
step_closed zero true Peak why e s = absurd cc
step_closed zero true Flag why e s = absurd cc
step_closed zero false Peak why e s = absurd cc
step_closed zero false Flag why e s = absurd cc
step_closed zero true Counter why e s = s.beyond ((tt, tt), (inl (refl, refl), inr (refl, refl))) (lit≤ tt)
step_closed zero false Counter why e s = s.beyond ((tt, tt), (inl (refl, refl), inr (refl, refl))) (lit≤ tt)

pub never_open : (place : Place) (why : Why) → IsOpenAt (rules_of bank) place why → ⊥
never_open (Reflexive number) why h =
    equal_closed why (subst (λ z. IsStuck (without_not true (equal_claim (rules_of bank).shape z)) why) (is_low number h.guard h.first) h.reason.stuck)
never_open (Accord number cell up) why h =
    step_closed cell up h.reason.kind why h.reason.of_kind
    (subst (λ z. IsStuck (without_not true (step_claim (rules_of bank).shape z h.reason.kind (step_of cell up))) why) (is_low number h.guard h.first) h.reason.reason.stuck)
never_open _ why h = h

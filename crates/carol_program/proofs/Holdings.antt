-- What rows about the cells of a store say, and how much they add.
use Rattle.std.proofs.Common.{◌≡◌, ℕ, zero, suc, ◌+◌, ◌*◌, ◌≤◌, ◌<◌, Bool, true, false, inl, inr, List, [], ◌∷◌, length, arith, refl, sym, ◌∙◌, ap}
use Rattle.std.specs.Prelude.{◌↔◌, ◌⊎◌, ◌&&◌, ℤ, pos, negsuc, ◌-ℤ◌, ◌≤ℤ◌}
use Rattle.std.proofs.lemmas.Int.{ints}
use Rattle.carol_store.specs.declared.shape.CellKind.{CellKind}
use Rattle.carol_store.specs.declared.shape.CellKind.TheVariants.{Counter, Peak, Flag}
use Rattle.carol_store.specs.Kinds.{MayHold}
use Rattle.carol_store.specs.Stores.{IsStore}
use Rattle.carol_formula.specs.declared.formula.Formula.{Formula}
use Rattle.carol_formula.specs.Claim.{Claim, is_at_most_zero, truth}
use Rattle.carol_formula.specs.Linear.{Linear, IsWithin, constant_of, variable_of, difference_of}
use Rattle.carol_formula.specs.Size.{IsLight, nodes_of}
use Rattle.carol_formula.specs.Tree.{claim_of}
use Rattle.carol_formula.specs.Value.{value_at}
use Rattle.carol_formula.specs.Weight.{weight}
use Rattle.carol_formula.proofs.Claims.{at_most_zero, is_at_most_zero_from}
use Rattle.carol_formula.proofs.Sums.{value_at-difference_of}
use Rattle.carol_formula.proofs.Weights.{weight-difference_of, IsWithin-weight}
use Rattle.carol_program.specs.Rows.{at_most, is_flag, with_kind, with_kinds}
use Rattle.carol_program.specs.Variables.{store_at}

pub IsWithin-difference : (limit : ℕ) (s t : Linear) → weight s + weight t < limit → IsWithin limit (difference_of s t)
IsWithin-difference limit s t h = IsWithin-weight limit (difference_of s t) (omega (arith, weight-difference_of s t))

-- the rows from here on are those that are left
pub record Holding (kinds : List CellKind) (base : ℕ) (start : Formula) (left : List CellKind) (variable : ℕ) (known : Formula) : Type 0 where
  pub same : with_kinds left variable (claim_of known) ≡ with_kinds kinds base (claim_of start)
  pub count : variable + length left ≡ base + length kinds

-- ---- what they say

and-parts : (b c : Bool) → ((b && c) ≡ true) ↔ ((b ≡ true) × (c ≡ true))
and-parts true c = (λ h. (refl, h), λ h. h.1)
and-parts false c = (λ h. cc, λ h. h.0)

zero-or-one : (z : ℤ) → ((is_at_most_zero (pos 0 -ℤ z) ≡ true) × (is_at_most_zero (z -ℤ pos 1) ≡ true)) ↔ MayHold Flag z
zero-or-one z = (λ h. between z (at_most_zero (pos 0 -ℤ z) h.0) (at_most_zero (z -ℤ pos 1) h.1), ends z)
  where
    between : (z : ℤ) → (pos 0 -ℤ z) ≤ℤ pos 0 → (z -ℤ pos 1) ≤ℤ pos 0 → (z ≡ pos 0) ⊎ (z ≡ pos 1)
    between (pos zero) h k = inl refl
    between (pos (suc zero)) h k = inr refl
    between (pos (suc (suc n))) h k = absurd (omega (arith, ints, k))
    between (negsuc n) h k = absurd (omega (arith, ints, h))

    ends : (z : ℤ) → (z ≡ pos 0) ⊎ (z ≡ pos 1) → (is_at_most_zero (pos 0 -ℤ z) ≡ true) × (is_at_most_zero (z -ℤ pos 1) ≡ true)
    ends z (inl e) = (is_at_most_zero_from (pos 0 -ℤ z) (omega (arith, ints, e)), is_at_most_zero_from (z -ℤ pos 1) (omega (arith, ints, e)))
    ends z (inr e) = (is_at_most_zero_from (pos 0 -ℤ z) (omega (arith, ints, e)), is_at_most_zero_from (z -ℤ pos 1) (omega (arith, ints, e)))

value_at-variable : (v : ℕ) (f : ℕ → ℤ) → value_at (variable_of v) f ≡ f v
value_at-variable v f = omega (arith, ints)

value_at-constant : (z : ℤ) (f : ℕ → ℤ) → value_at (constant_of z) f ≡ z
value_at-constant z f = omega (arith, ints)

module _ (f : ℕ → ℤ) where
  is_flag-says : (v : ℕ) → (truth (is_flag v) f ≡ true) ↔ MayHold Flag (f v)
  is_flag-says v =
      let low : truth (at_most (constant_of (pos 0)) (variable_of v)) f ≡ is_at_most_zero (pos 0 -ℤ f v) =
      ap is_at_most_zero (value_at-difference_of (constant_of (pos 0)) (variable_of v) f ∙ ap (λ z. z -ℤ value_at (variable_of v) f) (value_at-constant (pos 0) f) ∙ ap (λ z. pos 0 -ℤ z) (value_at-variable v f))
      in let high : truth (at_most (variable_of v) (constant_of (pos 1))) f ≡ is_at_most_zero (f v -ℤ pos 1) =
      ap is_at_most_zero (value_at-difference_of (variable_of v) (constant_of (pos 1)) f ∙ ap (λ z. z -ℤ value_at (constant_of (pos 1)) f) (value_at-variable v f) ∙ ap (λ z. f v -ℤ z) (value_at-constant (pos 1) f))
      in let parts = and-parts (truth (at_most (constant_of (pos 0)) (variable_of v)) f) (truth (at_most (variable_of v) (constant_of (pos 1))) f)
      in (
        λ h. let both = parts.0 h in (zero-or-one (f v)).0 (sym low ∙ both.0, sym high ∙ both.1),
        λ h. let both = (zero-or-one (f v)).1 h in parts.1 (low ∙ both.0, high ∙ both.1),
      )

  with_kind-says : (kind : CellKind) (v : ℕ) (known : Claim) → (truth (with_kind kind v known) f ≡ true) ↔ ((truth known f ≡ true) × MayHold kind (f v))
  with_kind-says Counter v known = (λ h. (h, tt), λ h. h.0)
  with_kind-says Peak v known = (λ h. (h, tt), λ h. h.0)
  with_kind-says Flag v known =
      let parts = and-parts (truth known f) (truth (is_flag v) f)
      in (λ h. let both = parts.0 h in (both.0, (is_flag-says v).0 both.1), λ h. parts.1 (h.0, (is_flag-says v).1 h.1))

  -- the rows say that the numbers are a store of these cells
  pub with_kinds-say : (kinds : List CellKind) (base : ℕ) (known : Claim) → (truth (with_kinds kinds base known) f ≡ true) ↔ ((truth known f ≡ true) × IsStore kinds (store_at kinds base f))
  with_kinds-say [] base known = (λ h. (h, tt), λ h. h.0)
  with_kinds-say (kind ∷ kinds) base known =
      let own = with_kind-says kind base known
      in let more = with_kinds-say kinds (base + 1) (with_kind kind base known)
      in (λ h. let both = more.0 h in let one = own.0 both.0 in (one.0, (one.1, both.1)), λ h. more.1 (own.1 (h.0, h.1.0), h.1.1))

-- ---- how much they add

with_kind-light : (kind : CellKind) (v : ℕ) (known : Claim) → IsLight known → IsLight (with_kind kind v known)
with_kind-light Counter v known h = h
with_kind-light Peak v known h = h
with_kind-light Flag v known h = (h, (omega (arith, weight-difference_of (constant_of (pos 0)) (variable_of v)), omega (arith, weight-difference_of (variable_of v) (constant_of (pos 1)))))

pub with_kinds-light : (kinds : List CellKind) (base : ℕ) (known : Claim) → IsLight known → IsLight (with_kinds kinds base known)
with_kinds-light [] base known h = h
with_kinds-light (kind ∷ kinds) base known h = with_kinds-light kinds (base + 1) (with_kind kind base known) (with_kind-light kind base known h)

with_kind-nodes : (kind : CellKind) (v : ℕ) (known : Claim) → nodes_of (with_kind kind v known) ≤ nodes_of known + 4
with_kind-nodes Counter v known = omega arith
with_kind-nodes Peak v known = omega arith
with_kind-nodes Flag v known = omega arith

pub with_kinds-nodes : (kinds : List CellKind) (base : ℕ) (known : Claim) → nodes_of (with_kinds kinds base known) ≤ nodes_of known + 4 * length kinds
with_kinds-nodes [] base known = omega arith
with_kinds-nodes (kind ∷ kinds) base known = omega (arith, with_kind-nodes kind base known, with_kinds-nodes kinds (base + 1) (with_kind kind base known))

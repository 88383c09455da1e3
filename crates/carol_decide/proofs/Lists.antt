-- Lists in which one formula is replaced, or which end in one more.
use Rattle.std.proofs.Common.{◌≡◌, ℕ, zero, suc, ◌+◌, ◌*◌, ◌≤◌, List, [], ◌∷◌, ◌++◌, length, refl, sym, ◌∙◌, ap, subst, arith}
use Rattle.std.specs.Prelude.{Some, slice_get, slice_set}
use Rattle.std.proofs.Math.Nat.{mul_assoc, mul_comm}
use Rattle.carol_formula.specs.Claim.{Claim, cases_of}
use Rattle.carol_decide.specs.Sizes.{Each, weight_of, weight_in, cases_in}
use Rattle.carol_decide.proofs.Forking.{weight_positive}

-- ---- what each formula has

pub Each-set : (P : Claim → Type 0) (claims : List Claim) (at : ℕ) (c : Claim) → Each P claims → P c → Each P (slice_set claims at c)
Each-set P [] at c h one = tt
Each-set P (d ∷ claims) zero c h one = (one, h.1)
Each-set P (d ∷ claims) (suc at) c h one = (h.0, Each-set P claims at c h.1 one)

-- with the formula that stood there
pub Each-unset : (P : Claim → Type 0) (claims : List Claim) (at : ℕ) (c whole : Claim) → slice_get claims at ≡ Some whole → Each P (slice_set claims at c) → P whole → Each P claims
Each-unset P [] at c whole e h one = tt
Each-unset P (d ∷ claims) zero c whole e h one = let same : d ≡ whole = cc in (subst P (sym same) one, h.1)
Each-unset P (d ∷ claims) (suc at) c whole e h one = (h.0, Each-unset P claims at c whole e h.1 one)

pub Each-at : (P : Claim → Type 0) (claims : List Claim) (at : ℕ) (c : Claim) → slice_get claims at ≡ Some c → Each P claims → P c
Each-at P [] at c e h = cc
Each-at P (d ∷ claims) zero c e h = let same : d ≡ c = cc in subst P same h.0
Each-at P (d ∷ claims) (suc at) c e h = Each-at P claims at c e h.1

-- the new formula has it, if one stood there
pub Each-set_at : (P : Claim → Type 0) (claims : List Claim) (at : ℕ) (c whole : Claim) → slice_get claims at ≡ Some whole → Each P (slice_set claims at c) → P c
Each-set_at P [] at c whole e h = cc
Each-set_at P (d ∷ claims) zero c whole e h = h.0
Each-set_at P (d ∷ claims) (suc at) c whole e h = Each-set_at P claims at c whole e h.1

pub Each-push : (P : Claim → Type 0) (claims : List Claim) (c : Claim) → Each P claims → P c → Each P (claims ++ c ∷ [])
Each-push P [] c h one = (one, tt)
Each-push P (d ∷ claims) c h one = (h.0, Each-push P claims c h.1 one)

pub Each-unpush : (P : Claim → Type 0) (claims : List Claim) (c : Claim) → Each P (claims ++ c ∷ []) → Each P claims × P c
Each-unpush P [] c h = (tt, h.0)
Each-unpush P (d ∷ claims) c h = let rest = Each-unpush P claims c h.1 in ((h.0, rest.0), rest.1)

-- ---- weights

pub weight_in-set : (claims : List Claim) (at : ℕ) (c whole : Claim) → slice_get claims at ≡ Some whole → weight_in (slice_set claims at c) + weight_of whole ≡ weight_in claims + weight_of c
weight_in-set [] at c whole e = cc
weight_in-set (d ∷ claims) zero c whole e = let same : weight_of d ≡ weight_of whole = ap weight_of (some_same d whole e) in omega arith
  where
    some_same : (d whole : Claim) → Some d ≡ Some whole → d ≡ whole
    some_same d whole e = cc
weight_in-set (d ∷ claims) (suc at) c whole e = omega (arith, weight_in-set claims at c whole e)

pub weight_in-push : (claims : List Claim) (c : Claim) → weight_in (claims ++ c ∷ []) ≡ weight_in claims + weight_of c
weight_in-push [] c = omega arith
weight_in-push (d ∷ claims) c = omega (arith, weight_in-push claims c)

pub length_light : (claims : List Claim) → length claims ≤ weight_in claims
length_light [] = omega arith
length_light (c ∷ claims) = omega (arith, length_light claims, weight_positive c)

-- ---- cases

-- the cases of the other formulas
pub record Others (claims : List Claim) (at : ℕ) (whole : Claim) : Type 0 where
  pub number : ℕ
  pub here : cases_in claims ≡ cases_of whole * number
  pub replaced : (c : Claim) → cases_in (slice_set claims at c) ≡ cases_of c * number

exchanged : (a b c : ℕ) → a * (b * c) ≡ b * (a * c)
exchanged a b c = sym (mul_assoc a b c) ∙ ap (λ n. n * c) (mul_comm a b) ∙ mul_assoc b a c

pub others : (claims : List Claim) (at : ℕ) (whole : Claim) → slice_get claims at ≡ Some whole → Others claims at whole
others [] at whole e = cc
others (d ∷ claims) zero whole e = let same : d ≡ whole = cc in record { number = cases_in claims; here = ap (λ c. cases_of c * cases_in claims) same; replaced = λ c. refl }
others (d ∷ claims) (suc at) whole e =
    let rest = others claims at whole e in
    record {
      number = cases_of d * rest.number;
      here = ap (λ n. cases_of d * n) rest.here ∙ exchanged (cases_of d) (cases_of whole) rest.number;
      replaced = λ c. ap (λ n. cases_of d * n) (rest.replaced c) ∙ exchanged (cases_of d) (cases_of c) rest.number;
    }

pub cases_in-push : (claims : List Claim) (c : Claim) → cases_in (claims ++ c ∷ []) ≡ cases_in claims * cases_of c
cases_in-push [] c = omega arith
cases_in-push (d ∷ claims) c = ap (λ n. cases_of d * n) (cases_in-push claims c) ∙ sym (mul_assoc (cases_of d) (cases_in claims) (cases_of c))

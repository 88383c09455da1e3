-- The formulas of all places of operations.
use Rattle.std.proofs.Common.{◌≡◌, ℕ, ◌+◌, Result, Ok, Err, List, [], ◌∷◌, ◌++◌, length, arith, refl, sym, ◌∙◌, ap, subst}
use Rattle.std.specs.Prelude.{map, false, OnOk}
use Rattle.std.specs.declared.alloc.AllocError.{AllocError}
use Rattle.std.specs.List.{AllByRecursion, AllZip}
use Rattle.std.proofs.lemmas.List.{map-append}
use Rattle.carol_formula.specs.Claim.{Claim, truth}
use Rattle.carol_formula.specs.Tree.{claim_of}
use Rattle.carol_formula.proofs.Light.{narrow_light, narrow_without_not, nodes-without_not}
use Rattle.carol_program.specs.declared.places.Place.{Place}
use Rattle.carol_program.specs.Rules.{Rules, OpRules}
use Rattle.carol_program.specs.WellFormed.{AreRules, IsOpOver}
use Rattle.carol_obligation.specs.Budget.{IsDecidable}
use Rattle.carol_obligation.specs.Formed.{obligation_at}
use Rattle.carol_obligation.specs.Places.{obligations_from, sites_of}
use Rattle.carol_obligation.specs.Spots.{Spot, spot_at, place_at, spots_from}
use Rattle.carol_obligation.specs.TruthLaw.{IsExact}
use Rattle.carol_obligation.specs.Listed.{owed_of, owed_in, IsOwedAt, AreNarrow}
use Rattle.carol_obligation.specs.Keeping.{AreDecidable, AreKept}
use Rattle.carol_obligation.specs.declared.list.Obligation.{Obligation}
use Rattle.carol_obligation.proofs.Each.{all-append, all-map, map-map}
use Rattle.carol_obligation.proofs.Exact.{formulas_are_exact}

-- what the place is called, and its formula
abbrev pub owed_at : Rules → Spot → Place × Claim
owed_at p s = (place_at s, obligation_at p s.op s.site)

abbrev pub IsExactAt : Rules → Spot → Type 0
IsExactAt p s = IsExact p s.op s.site

pub obligations_from-spots : (p : Rules) (number : ℕ) (ops : List OpRules) → obligations_from p number ops ≡ map (owed_at p) (spots_from p number ops)
obligations_from-spots p number [] = refl
obligations_from-spots p number (op ∷ ops) =
    ap (λ xs. xs ++ obligations_from p (number + 1) ops) (map-map (owed_at p) (spot_at number op) (sites_of p op)) ∙ ap (λ ys. map (owed_at p) (map (spot_at number op) (sites_of p op)) ++ ys) (obligations_from-spots p (number + 1) ops) ∙ sym (map-append (owed_at p) (map (spot_at number op) (sites_of p op)) (spots_from p (number + 1) ops))

abbrev pub AreOver : Rules → List OpRules → Type 0
AreOver p ops = AllByRecursion (IsOpOver p.shape (length p.guards)) ops

pub all_exact : (p : Rules) → AreRules p → (number : ℕ) (ops : List OpRules) → AreOver p ops → AllByRecursion (IsExactAt p) (spots_from p number ops)
all_exact p rules number [] over = tt
all_exact p rules number (op ∷ ops) over =
    all-append (IsExactAt p) (map (spot_at number op) (sites_of p op)) (spots_from p (number + 1) ops)
    (all-map (IsExactAt p) (spot_at number op) (sites_of p op) (formulas_are_exact p op rules over.0))
    (all_exact p rules (number + 1) ops over.1)

-- ---- a list of them

owed_place : (o : Obligation) (b : Place × Claim) → owed_of o ≡ b → o.place ≡ b.0
owed_place o b e = ap (λ (x : Place × Claim). x.0) e

owed_claim : (o : Obligation) (b : Place × Claim) → owed_of o ≡ b → claim_of o.formula ≡ b.1
owed_claim o b e = ap (λ (x : Place × Claim). x.1) e

owed_there : (p : Rules) (o : Obligation) (s : Spot) → owed_of o ≡ owed_at p s → IsExactAt p s → IsOwedAt p o s
owed_there p o s e exact =
    let same = owed_claim o (owed_at p s) e in
    record {
      place = owed_place o (owed_at p s) e;
      exact = λ f. (λ h. (exact f).0 (sym (ap (λ (c : Claim). truth c f) same) ∙ h), λ b. ap (λ (c : Claim). truth c f) same ∙ (exact f).1 b);
    }

heads : {A : Type 0} {x y : A} {xs ys : List A} → x ∷ xs ≡ y ∷ ys → x ≡ y
heads e = cc

tails : {A : Type 0} {x y : A} {xs ys : List A} → x ∷ xs ≡ y ∷ ys → xs ≡ ys
tails e = cc

pub owed_at_spots : (p : Rules) (list : List Obligation) (spots : List Spot) → owed_in list ≡ map (owed_at p) spots → AllByRecursion (IsExactAt p) spots → AllZip (IsOwedAt p) list spots
owed_at_spots p [] [] e exact = tt
owed_at_spots p [] (s ∷ spots) e exact = cc
owed_at_spots p (o ∷ list) [] e exact = cc
owed_at_spots p (o ∷ list) (s ∷ spots) e exact = (owed_there p o s (heads e) exact.0, owed_at_spots p list spots (tails e) exact.1)

pub narrow_decidable : (list : List Obligation) → AreDecidable list → AreNarrow list
narrow_decidable [] h = tt
narrow_decidable (o ∷ list) h =
    let c = claim_of o.formula in (
      (record { narrow = narrow_light c h.0.light; few = omega (arith, h.0.few) }, record { narrow = narrow_without_not false c h.0.light; few = omega (arith, h.0.few, nodes-without_not false c) }),
      narrow_decidable list h.1,
    )

-- one more is kept
pub kept_more : (old new : List Obligation) (o : Obligation) (taken : List (Place × Claim)) → new ≡ old ++ o ∷ [] → IsDecidable (claim_of o.formula) → AreKept old taken → AreKept new (taken ++ owed_of o ∷ [])
kept_more old new o taken is one kept = record {
  same = ap owed_in is ∙ map-append owed_of old (o ∷ []) ∙ ap (λ list. list ++ owed_of o ∷ []) kept.same;
  decidable = subst AreDecidable (sym is) (all-append (λ x. IsDecidable (claim_of x.formula)) old (o ∷ []) kept.decidable (one, tt));
}

pub kept_pushed : (r : Result (Unit {0}) AllocError) (old new : List Obligation) (o : Obligation) → IsDecidable (claim_of o.formula) → OnOk r (new ≡ old ++ o ∷ []) → OnOk r ((taken : List (Place × Claim)) → AreKept old taken → AreKept new (taken ++ owed_of o ∷ []))
kept_pushed (Ok u) old new o one pushed = λ taken kept. kept_more old new o taken pushed one kept
kept_pushed (Err e) old new o one pushed = tt

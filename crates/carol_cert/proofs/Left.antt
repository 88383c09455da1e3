-- What waits at branches, as one is added below the others.
use Rattle.std.proofs.Common.{ℕ, ◌≡◌, List, [], ◌∷◌, ◌++◌, map, refl, sym, ◌∙◌, ap}
use Rattle.std.specs.Prelude.{ℤ, pos, ◌+ℤ◌}
use Rattle.std.specs.Borrow.{Bor}
use Rattle.std.proofs.lemmas.List.{append_assoc, append-nil, map-append}
use Rattle.carol_formula.specs.Claim.{Claim}
use Rattle.carol_cert.specs.Cases.{at_most_number, at_least_number}
use Rattle.carol_cert.specs.Place.{claim_of_item}
use Rattle.carol_cert.specs.declared.place.Item.{Item}
use Rattle.carol_cert.specs.declared.place.Item.TheVariants.{Whole, Negative, Positive, AtMost, AtLeast}
use Rattle.carol_cert.specs.Proof.{Proof}
use Rattle.carol_cert.specs.Left.{bound_of, claim_of_branch, claims_below, waiting, waiting_at}

pub claims_below_pushed : (claims : List Claim) (bs : List (Item × Proof)) (b : Item × Proof) → claims_below claims (bs ++ b ∷ []) ≡ claims_below claims bs ++ claim_of_branch b ∷ []
claims_below_pushed claims bs b = ap (λ more. claims ++ more) (map-append claim_of_branch bs (b ∷ [])) ∙ sym (append_assoc claims (map claim_of_branch bs) (claim_of_branch b ∷ []))

pub waiting_pushed : (claims : List Claim) (bs : List (Item × Proof)) (b : Item × Proof) → waiting claims (bs ++ b ∷ []) ≡ waiting_at (claims_below claims bs) b.0 b.1 ++ waiting claims bs
waiting_pushed claims [] b = ap (λ cs. waiting_at cs b.0 b.1) (sym (append-nil claims)) ∙ sym (append-nil (waiting_at (claims ++ []) b.0 b.1))
waiting_pushed claims (a ∷ bs) b =
    let below : List Claim = claims_below (claims ++ claim_of_branch a ∷ []) bs in
    ap (λ ws. ws ++ waiting_at claims a.0 a.1) (waiting_pushed (claims ++ claim_of_branch a ∷ []) bs b)
    ∙ append_assoc (waiting_at below b.0 b.1) (waiting (claims ++ claim_of_branch a ∷ []) bs) (waiting_at claims a.0 a.1)
    ∙ ap (λ cs. waiting_at cs b.0 b.1 ++ waiting claims (a ∷ bs)) (append_assoc claims (claim_of_branch a ∷ []) (map claim_of_branch bs))

-- a branch that isn't on its low side
pub none_waits : (claims : List Claim) (bs : List (Item × Proof)) (bound : Item) (tree : Proof) → ((v : Bor ℕ) (k : ℤ) → bound ≡ AtMost v k → ⊥) → waiting claims (bs ++ (bound, tree) ∷ []) ≡ waiting claims bs
none_waits claims bs bound tree high = waiting_pushed claims bs (bound, tree) ∙ ap (λ ws. ws ++ waiting claims bs) (none bound high)
  where
    none : (b : Item) → ((v : Bor ℕ) (k : ℤ) → b ≡ AtMost v k → ⊥) → waiting_at (claims_below claims bs) b tree ≡ []
    none (AtMost v k) h = absurd (h v k refl)
    none (AtLeast v k) h = refl
    none (Whole formula) h = refl
    none (Negative t) h = refl
    none (Positive t) h = refl

-- the side is turned
pub turned : (claims : List Claim) (bs : List (Item × Proof)) (v : Bor ℕ) (k : ℤ) (tree : Proof) → waiting claims (bs ++ (AtMost v k, tree) ∷ []) ≡ (tree, claims_below claims (bs ++ (AtLeast v (k +ℤ pos 1), tree) ∷ [])) ∷ waiting claims (bs ++ (AtLeast v (k +ℤ pos 1), tree) ∷ [])
turned claims bs v k tree =
    let high : Item × Proof = (AtLeast v (k +ℤ pos 1), tree) in
    waiting_pushed claims bs (AtMost v k, tree)
    ∙ ap (λ cs. (tree, cs) ∷ waiting claims bs) (sym (claims_below_pushed claims bs high))
    ∙ ap (λ ws. (tree, claims_below claims (bs ++ high ∷ [])) ∷ ws) (sym (waiting_pushed claims bs high))

-- what is left below a branch, once its low side is next
pub pushed : (claims : List Claim) (old new : List (Item × Proof)) (v : Bor ℕ) (same k : ℤ) (low high : Proof) → new ≡ old ++ (AtMost v same, high) ∷ [] → same ≡ k → (low, claims_below claims new) ∷ waiting claims new ≡ (low, claims_below claims old ++ at_most_number v.now k ∷ []) ∷ (high, claims_below claims old ++ at_least_number v.now (k +ℤ pos 1) ∷ []) ∷ waiting claims old
pushed claims old new v same k low high e f =
    ap (λ bs. (low, claims_below claims bs) ∷ waiting claims bs) (e ∙ ap (λ z. old ++ (AtMost v z, high) ∷ []) f)
    ∙ ap (λ cs. (low, cs) ∷ waiting claims (old ++ (AtMost v k, high) ∷ [])) (claims_below_pushed claims old (AtMost v k, high))
    ∙ ap (λ ws. (low, claims_below claims old ++ at_most_number v.now k ∷ []) ∷ ws) (waiting_pushed claims old (AtMost v k, high))

pub below_bounds : (claims now : List Claim) (items : List Item) (bs : List (Item × Proof)) → now ≡ claims ++ map claim_of_item items → items ≡ map bound_of bs → now ≡ claims_below claims bs
below_bounds claims now items bs e f = e ∙ ap (λ more. claims ++ map claim_of_item more) f ∙ ap (λ more. claims ++ more) (both_maps bs)
  where
    both_maps : (bs : List (Item × Proof)) → map claim_of_item (map bound_of bs) ≡ map claim_of_branch bs
    both_maps [] = refl
    both_maps (b ∷ bs) = ap (λ more. claim_of_branch b ∷ more) (both_maps bs)

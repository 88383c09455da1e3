-- A list that is refuted is never true.
use Rattle.std.proofs.Common.{ℕ, ◌≡◌, Bool, true, false, List, [], ◌∷◌, ◌++◌, inl, inr, refl, arith}
use Rattle.std.specs.Prelude.{Option, Some, None, MatchOption, slice_get, slice_set, ℤ, pos, ◌+ℤ◌}
use Rattle.std.specs.Option.{option_and_then}
use Rattle.std.proofs.lemmas.Bool.{false≢true}
use Rattle.carol_formula.specs.Claim.{Claim, True, False, Le, Eq, Ne, And, Or, Not, truth}
use Rattle.carol_cert.specs.Cases.{at_most_number, at_least_number}
use Rattle.carol_cert.specs.Proof.{Proof, Absurd, Part, Split, Branch, Rows, Unclosed}
use Rattle.carol_cert.specs.Refutes.{parts_of, sides_of, Refutes, IsNeverTrue, AreNeverTrue}
use Rattle.carol_cert.proofs.ClaimsHold.{IsTrueAt, true_at, true_more, true_replaced, true_parts, true_side, true_sign, true_bound}
use Rattle.carol_cert.proofs.RowsHold.{closed_fails}

-- a part fails where both parts of a true `And` fail
part_fails : (f : ℕ → ℤ) (claim : Option Claim) (Q : Claim → Claim → Type 0) → ((c : Claim) → claim ≡ Some c → IsTrueAt f c) → ((a b : Claim) → Q a b → IsTrueAt f a → IsTrueAt f b → ⊥) → MatchOption (option_and_then parts_of claim) ⊥ (λ p. Q p.0 p.1) → ⊥
part_fails f (Some (And a b)) Q true_claim fails q = let both = true_parts f a b (true_claim (And a b) refl) in fails a b q both.0 both.1
part_fails f (Some True) Q true_claim fails q = q
part_fails f (Some False) Q true_claim fails q = q
part_fails f (Some (Le t)) Q true_claim fails q = q
part_fails f (Some (Eq t)) Q true_claim fails q = q
part_fails f (Some (Ne t)) Q true_claim fails q = q
part_fails f (Some (Or a b)) Q true_claim fails q = q
part_fails f (Some (Not a)) Q true_claim fails q = q
part_fails f None Q true_claim fails q = q

-- a split fails where each case fails
split_fails : (f : ℕ → ℤ) (claim : Option Claim) (Q R : Claim → Type 0) → ((c : Claim) → claim ≡ Some c → IsTrueAt f c) → ((a : Claim) → Q a → IsTrueAt f a → ⊥) → ((b : Claim) → R b → IsTrueAt f b → ⊥) → MatchOption (option_and_then sides_of claim) ⊥ (λ p. Q p.0 × R p.1) → ⊥
split_fails f (Some (Or a b)) Q R true_claim left right q = elim (true_side f a b (true_claim (Or a b) refl)) [ inl h ↦ left a q.0 h | inr h ↦ right b q.1 h ]
split_fails f (Some (Ne t)) Q R true_claim left right q = elim (true_sign f t (true_claim (Ne t) refl)) [ inl h ↦ left _ q.0 h | inr h ↦ right _ q.1 h ]
split_fails f (Some True) Q R true_claim left right q = q
split_fails f (Some False) Q R true_claim left right q = q
split_fails f (Some (Le t)) Q R true_claim left right q = q
split_fails f (Some (Eq t)) Q R true_claim left right q = q
split_fails f (Some (And a b)) Q R true_claim left right q = q
split_fails f (Some (Not a)) Q R true_claim left right q = q
split_fails f None Q R true_claim left right q = q

pub never_true : (proof : Proof) (claims : List Claim) → Refutes proof claims → AreNeverTrue claims
never_true (Absurd at) claims refutes f hold = false≢true (true_at f claims at False hold refutes)
never_true (Part at rest) claims refutes f hold =
    part_fails f (slice_get claims at) (λ a b. Refutes rest (slice_set claims at a ++ b ∷ [])) (λ c e. true_at f claims at c hold e)
    (λ a b q ha hb. never_true rest (slice_set claims at a ++ b ∷ []) q f (true_more f (slice_set claims at a) b (true_replaced f claims at a hold ha) hb)) refutes
never_true (Split at left right) claims refutes f hold =
    split_fails f (slice_get claims at) (λ a. Refutes left (slice_set claims at a)) (λ b. Refutes right (slice_set claims at b)) (λ c e. true_at f claims at c hold e)
    (λ a q h. never_true left (slice_set claims at a) q f (true_replaced f claims at a hold h))
    (λ b q h. never_true right (slice_set claims at b) q f (true_replaced f claims at b hold h)) refutes
never_true (Branch v k low high) claims refutes f hold = elim (true_bound f v k) [
  | inl h ↦ never_true low (claims ++ at_most_number v k ∷ []) refutes.2 f (true_more f claims (at_most_number v k) hold h)
  | inr h ↦ never_true high (claims ++ at_least_number v (k +ℤ pos 1) ∷ []) refutes.3 f (true_more f claims (at_least_number v (k +ℤ pos 1)) hold h)
]
never_true (Rows steps) claims refutes f hold = closed_fails f claims steps refutes hold
never_true Unclosed claims refutes f hold = refutes

-- the same of one claim
pub claim_never_true : (claim : Claim) → AreNeverTrue (claim ∷ []) → IsNeverTrue claim
claim_never_true claim never f = from (truth claim f) refl
  where
    from : (b : Bool) → truth claim f ≡ b → truth claim f ≡ false
    from false e = e
    from true e = absurd (never f (true_more f [] claim (λ k d lt. absurd (omega arith)) e))

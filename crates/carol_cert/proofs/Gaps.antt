-- A tree refutes a list exactly where it goes right and no leaf is unclosed.
use Rattle.std.proofs.Common.{◌≡◌, Bool, true, false, List, [], ◌∷◌, ◌++◌, refl, sym, ◌∙◌, ap}
use Rattle.std.specs.Prelude.{Option, Some, None, MatchOption, slice_set, IsTrue, not, ◌||◌, ◌↔◌, pos, ◌+ℤ◌}
use Rattle.std.proofs.lemmas.Bool.{false≢true}
use Rattle.carol_formula.specs.Claim.{Claim}
use Rattle.carol_cert.specs.Cases.{at_most_number, at_least_number}
use Rattle.carol_cert.specs.Proof.{Proof, Absurd, Part, Split, Branch, Rows, Unclosed}
use Rattle.carol_cert.specs.Refutes.{parts_at, sides_at, Refutes}
use Rattle.carol_cert.specs.Counts.{has_gap, GoesRight}

no_first : (a b : Bool) → a || b ≡ false → a ≡ false
no_first true b e = e
no_first false b e = refl

no_second : (a b : Bool) → a || b ≡ false → b ≡ false
no_second true b e = absurd (false≢true (sym e))
no_second false b e = e

neither : (a b : Bool) → a ≡ false → b ≡ false → a || b ≡ false
neither true b e f = e
neither false b e f = f

-- what follows at a pair that is there
at_pair : (o : Option (Claim × Claim)) (P Q : Claim × Claim → Type 0) → ((p : Claim × Claim) → P p → Q p) → MatchOption o ⊥ P → MatchOption o ⊥ Q
at_pair None P Q f h = h
at_pair (Some p) P Q f h = f p h

and_at_pair : (o : Option (Claim × Claim)) (P Q : Claim × Claim → Type 0) (R : Type 0) → ((p : Claim × Claim) → P p → Q p × R) → MatchOption o ⊥ P → MatchOption o ⊥ Q × R
and_at_pair None P Q R f h = absurd h
and_at_pair (Some p) P Q R f h = f p h

closes_right : (tree : Proof) (claims : List Claim) → GoesRight tree claims → has_gap tree ≡ false → Refutes tree claims
closes_right (Absurd at) claims h e = h
closes_right (Part at rest) claims h e =
    at_pair (parts_at claims at) (λ p. GoesRight rest (slice_set claims at p.0 ++ p.1 ∷ [])) (λ p. Refutes rest (slice_set claims at p.0 ++ p.1 ∷ [])) (λ p g. closes_right rest (slice_set claims at p.0 ++ p.1 ∷ []) g e) h
closes_right (Split at left right) claims h e =
    at_pair (sides_at claims at) (λ p. GoesRight left (slice_set claims at p.0) × GoesRight right (slice_set claims at p.1)) (λ p. Refutes left (slice_set claims at p.0) × Refutes right (slice_set claims at p.1))
    (λ p g. (closes_right left (slice_set claims at p.0) g.0 (no_first (has_gap left) (has_gap right) e), closes_right right (slice_set claims at p.1) g.1 (no_second (has_gap left) (has_gap right) e))) h
closes_right (Branch v k low high) claims h e = (h.0, h.1, closes_right low (claims ++ at_most_number v k ∷ []) h.2 (no_first (has_gap low) (has_gap high) e), closes_right high (claims ++ at_least_number v (k +ℤ pos 1) ∷ []) h.3 (no_second (has_gap low) (has_gap high) e))
closes_right (Rows steps) claims h e = h
closes_right Unclosed claims h e = absurd (false≢true (sym e))

refutes_right : (tree : Proof) (claims : List Claim) → Refutes tree claims → GoesRight tree claims × (has_gap tree ≡ false)
refutes_right (Absurd at) claims h = (h, refl)
refutes_right (Part at rest) claims h =
    and_at_pair (parts_at claims at) (λ p. Refutes rest (slice_set claims at p.0 ++ p.1 ∷ [])) (λ p. GoesRight rest (slice_set claims at p.0 ++ p.1 ∷ [])) (has_gap rest ≡ false) (λ p g. refutes_right rest (slice_set claims at p.0 ++ p.1 ∷ []) g) h
refutes_right (Split at left right) claims h =
    and_at_pair (sides_at claims at) (λ p. Refutes left (slice_set claims at p.0) × Refutes right (slice_set claims at p.1)) (λ p. GoesRight left (slice_set claims at p.0) × GoesRight right (slice_set claims at p.1)) (has_gap left || has_gap right ≡ false)
    (λ p g.
    let first = refutes_right left (slice_set claims at p.0) g.0 in
    let second = refutes_right right (slice_set claims at p.1) g.1 in
    ((first.0, second.0), neither (has_gap left) (has_gap right) first.1 second.1)) h
refutes_right (Branch v k low high) claims h =
    let first = refutes_right low (claims ++ at_most_number v k ∷ []) h.2 in
    let second = refutes_right high (claims ++ at_least_number v (k +ℤ pos 1) ∷ []) h.3 in
    ((h.0, h.1, first.0, second.0), neither (has_gap low) (has_gap high) first.1 second.1)
refutes_right (Rows steps) claims h = (h, refl)
refutes_right Unclosed claims h = absurd h

-- what a walk that came back says, by its gap
pub no_gap : (tree : Proof) (claims : List Claim) (gap : Bool) → GoesRight tree claims → gap ≡ has_gap tree → IsTrue (not gap) ↔ Refutes tree claims
no_gap tree claims gap h e = (λ is. closes_right tree claims h (sym e ∙ open_false gap is), λ g. ap not (e ∙ (refutes_right tree claims g).1))
  where
    open_false : (b : Bool) → not b ≡ true → b ≡ false
    open_false true e = absurd (false≢true e)
    open_false false e = refl

-- and where none came back
pub no_way : (tree : Proof) (claims : List Claim) → ¬ GoesRight tree claims → IsTrue false ↔ Refutes tree claims
no_way tree claims h = (λ is. absurd (false≢true is), λ g. absurd (h (refutes_right tree claims g).0))

-- A walk over a tree that is partly done: what it brought back so far, and what is left.
use Rattle.std.proofs.Common.{ℕ, ◌≡◌, ◌<◌, ◌≤◌, ◌+◌, ◌-◌, ◌^◌, Bool, true, false, List, [], ◌∷◌, ◌++◌, refl, sym, subst, ◌∙◌, ap, arith}
use Rattle.std.specs.Prelude.{◌||◌, ◌↔◌, ℤ, pos, ◌+ℤ◌}
use Rattle.carol_formula.specs.Bounds.{IsBelow, value_limit}
use Rattle.carol_formula.specs.Claim.{Claim}
use Rattle.carol_cert.specs.Cases.{at_most_number, at_least_number}
use Rattle.carol_cert.specs.declared.checker.Walked.{Walked}
use Rattle.carol_cert.specs.Proof.{Proof, Absurd, Part, Split, Branch, Rows, Unclosed}
use Rattle.carol_cert.specs.Counts.{turns_of, has_gap, GoesRight}
use Rattle.carol_cert.specs.Walked.{counted, walked}
use Rattle.carol_cert.specs.Left.{AllGoRight, turns_left, gap_left}

-- how many levels a tree has in all
abbrev pub size_of : Proof → ℕ
size_of (Absurd at) = 1
size_of (Part at rest) = size_of rest + 1
size_of (Split at left right) = size_of left + size_of right + 1
size_of (Branch v k low high) = size_of low + size_of high + 1
size_of (Rows steps) = 1
size_of Unclosed = 1

abbrev pub size_left : List (Proof × List Claim) → ℕ
size_left [] = 0
size_left (first ∷ rest) = size_of first.0 + size_left rest

pub size_positive : (tree : Proof) → 0 < size_of tree
size_positive (Absurd at) = omega arith
size_positive (Part at rest) = omega arith
size_positive (Split at left right) = omega arith
size_positive (Branch v k low high) = omega arith
size_positive (Rows steps) = omega arith
size_positive Unclosed = omega arith

-- what the walk brought back, put to what is left, is the whole walk
pub record Stands (tree : Proof) (claims : List Claim) (walk : Walked) (left : List (Proof × List Claim)) : Type 0 where
  pub right : GoesRight tree claims ↔ AllGoRight left
  pub turns : counted (walk.turns + turns_left left) ≡ counted (turns_of tree)
  pub fits : walk.turns ≤ 2 ^ 32 - 1
  pub gap : walk.has_gap || gap_left left ≡ has_gap tree
  pub size : size_left left < size_of tree

-- both walks together
abbrev pub both : Walked → Walked → Walked
both walk other = record { turns = counted (walk.turns + other.turns); has_gap = walk.has_gap || other.has_gap }

or_false : (a : Bool) → a || false ≡ a
or_false true = refl
or_false false = refl

or_assoc : (a b c : Bool) → (a || b) || c ≡ a || (b || c)
or_assoc true b c = refl
or_assoc false b c = refl

-- a branch, both of its sides next
pub begun : (v : ℕ) (k : ℤ) (low high : Proof) (claims : List Claim) (walk : Walked) → IsBelow value_limit k × IsBelow value_limit (k +ℤ pos 1) → walk ≡ record { turns = 1; has_gap = false } → Stands (Branch v k low high) claims walk ((low, claims ++ at_most_number v k ∷ []) ∷ (high, claims ++ at_least_number v (k +ℤ pos 1) ∷ []) ∷ [])
begun v k low high claims walk sides e = rw e record {
  right = ((λ h. (h.2, (h.3, tt {0}))), (λ h. (sides.0, sides.1, h.0, h.1.0)));
  turns = ap counted (omega arith);
  fits = omega arith;
  gap = ap (λ b. has_gap low || b) (or_false (has_gap high));
  size = omega arith;
}

-- the same further down
pub down : (tree : Proof) (claims : List Claim) (walk next : Walked) (first : Proof) (v : ℕ) (k : ℤ) (low high : Proof) (below : List Claim) (left : List (Proof × List Claim)) → Stands tree claims walk ((first, below) ∷ left) → first ≡ Branch v k low high → IsBelow value_limit k × IsBelow value_limit (k +ℤ pos 1) → next ≡ both walk (record { turns = 1; has_gap = false }) → Stands tree claims next ((low, below ++ at_most_number v k ∷ []) ∷ (high, below ++ at_least_number v (k +ℤ pos 1) ∷ []) ∷ left)
down tree claims walk next first v k low high below left stands is sides e = rw e record {
  right = ((λ h. let all = s.right.0 h in (all.0.2, (all.0.3, all.1))), (λ h. s.right.1 ((sides.0, sides.1, h.0, h.1.0), h.1.1)));
  turns = (let same = s.turns in omega arith);
  fits = omega arith;
  gap =
      ap (λ b. b || (has_gap low || (has_gap high || gap_left left))) (or_false walk.has_gap)
      ∙ ap (λ b. walk.has_gap || b) (sym (or_assoc (has_gap low) (has_gap high) (gap_left left)))
      ∙ s.gap;
  size = (let less = s.size in omega arith);
}
  where
    s : Stands tree claims walk ((Branch v k low high, below) ∷ left)
    s = subst (λ p. Stands tree claims walk ((p, below) ∷ left)) is stands

-- the first is walked
pub further : (tree : Proof) (claims : List Claim) (walk next other : Walked) (first : Proof) (below : List Claim) (left : List (Proof × List Claim)) → Stands tree claims walk ((first, below) ∷ left) → GoesRight first below × (other ≡ walked first) → next ≡ both walk other → Stands tree claims next left
further tree claims walk next other first below left s goes e = rw (e ∙ ap (both walk) goes.1) record {
  right = ((λ h. (s.right.0 h).1), (λ h. s.right.1 (goes.0, h)));
  turns = (let same = s.turns in omega arith);
  fits = omega arith;
  gap = or_assoc walk.has_gap (has_gap first) (gap_left left) ∙ s.gap;
  size = (let less = s.size in omega arith);
}

-- the first doesn't go right
pub fails : (tree : Proof) (claims : List Claim) (walk : Walked) (first : Proof) (below : List Claim) (left : List (Proof × List Claim)) → Stands tree claims walk ((first, below) ∷ left) → ¬ GoesRight first below → ¬ GoesRight tree claims
fails tree claims walk first below left s wrong goes = wrong (s.right.0 goes).0

-- the same walk over an equal tree
pub over : (same tree : Proof) (claims : List Claim) (walk : Walked) (left : List (Proof × List Claim)) → Stands same claims walk left → same ≡ tree → Stands tree claims walk left
over same tree claims walk left s e = subst (λ p. Stands p claims walk left) e s

-- nothing is left
pub ended : (tree : Proof) (claims : List Claim) (walk : Walked) → Stands tree claims walk [] → GoesRight tree claims × (walk ≡ walked tree)
ended tree claims walk s = (
  s.right.1 (tt {0}),
  ap (λ n. record { turns = n; has_gap = walk.has_gap }) (let fits = s.fits in let same = s.turns in omega arith)
      ∙ ap (λ b. record { turns = counted (turns_of tree); has_gap = b }) (sym (or_false walk.has_gap) ∙ s.gap),
)

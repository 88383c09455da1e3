-- The formula of the deposit's invariant, which adds two variables up: it is taken apart in one way,
-- and no branch of its rows is due.
use Rattle.std.proofs.Common.{◌≡◌, ℕ, zero, suc, ◌≤◌, inl, inr, List, [], ◌∷◌, ◌++◌, refl, sym, ◌∙◌, ap, subst, lit≤, arith}
use Rattle.std.specs.Prelude.{Some, ℤ, pos, negsuc, slice_set}
use Rattle.std.proofs.lemmas.Int.{ints}
use Rattle.carol_formula.specs.Linear.{Linear}
use Rattle.carol_formula.specs.Claim.{Claim, True, Le, And}
use Rattle.carol_cert.specs.Proof.{Proof, Absurd, Part, Split, Branch, Rows, Unclosed}
use Rattle.carol_cert.specs.Counts.{turns_of, GoesRight}
use Rattle.carol_cert.specs.Refutes.{parts_at, sides_at}
use Rattle.carol_elimination.specs.Due.{IsDueFor, BranchesAreDue, ComeFromDue, AreRows, rows_at}
use Rattle.carol_decide.specs.Case.{TakesApart, Becomes, IsCaseOf}
use Rattle.carol_decide.specs.declared.answer.TheConstants.{MOST_LEAVES}
use Rattle.carol_linear.specs.Answer.{IsSpent}

-- ---- the formula

-- the amount is at least 1, and at most 1000
abbrev pub some : Linear
some = record { pairs = (32, negsuc 0) ∷ []; rest = pos 1 }

abbrev pub few : Linear
few = record { pairs = (32, pos 1) ∷ []; rest = negsuc 999 }

-- the balance is at least 0, and isn't so with the amount
abbrev pub before : Linear
before = record { pairs = (192, negsuc 0) ∷ []; rest = pos 0 }

abbrev pub behind : Linear
behind = record { pairs = (32, pos 1) ∷ (192, pos 1) ∷ []; rest = pos 1 }

abbrev amount_claim : Claim
amount_claim = And (Le some) (Le few)

abbrev known_claim : Claim
known_claim = And True amount_claim

abbrev round_claim : Claim
round_claim = And known_claim (Le before)

abbrev pub sum_claim : Claim
sum_claim = And round_claim (Le behind)

-- ---- taken apart, which goes in one way

abbrev pub l0 : List Claim
l0 = sum_claim ∷ []

abbrev l1 : List Claim
l1 = round_claim ∷ Le behind ∷ []

abbrev l2 : List Claim
l2 = known_claim ∷ Le behind ∷ Le before ∷ []

abbrev l3 : List Claim
l3 = True ∷ Le behind ∷ Le before ∷ amount_claim ∷ []

abbrev l4 : List Claim
l4 = True ∷ Le behind ∷ Le before ∷ Le some ∷ Le few ∷ []

abbrev pub rows : List Linear
rows = behind ∷ before ∷ some ∷ few ∷ []

-- what elimination makes of them is absurd
abbrev pub absurd_row : Linear
absurd_row = record { pairs = []; rest = pos 2 }

-- ---- no branch is due

none_due : (x : ℕ) (k : ℤ) → IsDueFor rows x k → ⊥
none_due x k d = d.quiet absurd_row (inr (inl refl)) (record { no_variable = refl; positive = omega (arith, ints) })

-- ---- trees

turns4 : (tree : Proof) → GoesRight tree l4 → BranchesAreDue tree l4 → turns_of tree ≤ 1
turns4 (Absurd at) g d = lit≤ tt
turns4 (Part zero rest) g d = absurd g
turns4 (Part (suc zero) rest) g d = absurd g
turns4 (Part (suc (suc zero)) rest) g d = absurd g
turns4 (Part (suc (suc (suc zero))) rest) g d = absurd g
turns4 (Part (suc (suc (suc (suc zero)))) rest) g d = absurd g
turns4 (Part (suc (suc (suc (suc (suc at))))) rest) g d = absurd g
turns4 (Split zero left right) g d = absurd g
turns4 (Split (suc zero) left right) g d = absurd g
turns4 (Split (suc (suc zero)) left right) g d = absurd g
turns4 (Split (suc (suc (suc zero))) left right) g d = absurd g
turns4 (Split (suc (suc (suc (suc zero)))) left right) g d = absurd g
turns4 (Split (suc (suc (suc (suc (suc at))))) left right) g d = absurd g
turns4 (Branch x k low high) g d = absurd (none_due x k d.0.due)
turns4 (Rows steps) g d = lit≤ tt
turns4 Unclosed g d = lit≤ tt

turns3 : (tree : Proof) → GoesRight tree l3 → BranchesAreDue tree l3 → turns_of tree ≤ 1
turns3 (Absurd at) g d = lit≤ tt
turns3 (Part zero rest) g d = absurd g
turns3 (Part (suc zero) rest) g d = absurd g
turns3 (Part (suc (suc zero)) rest) g d = absurd g
turns3 (Part (suc (suc (suc zero))) rest) g d = turns4 rest g d
turns3 (Part (suc (suc (suc (suc at)))) rest) g d = absurd g
turns3 (Split zero left right) g d = absurd g
turns3 (Split (suc zero) left right) g d = absurd g
turns3 (Split (suc (suc zero)) left right) g d = absurd g
turns3 (Split (suc (suc (suc zero))) left right) g d = absurd g
turns3 (Split (suc (suc (suc (suc at)))) left right) g d = absurd g
turns3 (Branch x k low high) g d = absurd d.0.rows
turns3 (Rows steps) g d = lit≤ tt
turns3 Unclosed g d = lit≤ tt

turns2 : (tree : Proof) → GoesRight tree l2 → BranchesAreDue tree l2 → turns_of tree ≤ 1
turns2 (Absurd at) g d = lit≤ tt
turns2 (Part zero rest) g d = turns3 rest g d
turns2 (Part (suc zero) rest) g d = absurd g
turns2 (Part (suc (suc zero)) rest) g d = absurd g
turns2 (Part (suc (suc (suc at))) rest) g d = absurd g
turns2 (Split zero left right) g d = absurd g
turns2 (Split (suc zero) left right) g d = absurd g
turns2 (Split (suc (suc zero)) left right) g d = absurd g
turns2 (Split (suc (suc (suc at))) left right) g d = absurd g
turns2 (Branch x k low high) g d = absurd d.0.rows
turns2 (Rows steps) g d = lit≤ tt
turns2 Unclosed g d = lit≤ tt

turns1 : (tree : Proof) → GoesRight tree l1 → BranchesAreDue tree l1 → turns_of tree ≤ 1
turns1 (Absurd at) g d = lit≤ tt
turns1 (Part zero rest) g d = turns2 rest g d
turns1 (Part (suc zero) rest) g d = absurd g
turns1 (Part (suc (suc at)) rest) g d = absurd g
turns1 (Split zero left right) g d = absurd g
turns1 (Split (suc zero) left right) g d = absurd g
turns1 (Split (suc (suc at)) left right) g d = absurd g
turns1 (Branch x k low high) g d = absurd d.0.rows
turns1 (Rows steps) g d = lit≤ tt
turns1 Unclosed g d = lit≤ tt

turns0 : (tree : Proof) → GoesRight tree l0 → BranchesAreDue tree l0 → turns_of tree ≤ 1
turns0 (Absurd at) g d = lit≤ tt
turns0 (Part zero rest) g d = turns1 rest g d
turns0 (Part (suc at) rest) g d = absurd g
turns0 (Split zero left right) g d = absurd g
turns0 (Split (suc at) left right) g d = absurd g
turns0 (Branch x k low high) g d = absurd d.0.rows
turns0 (Rows steps) g d = lit≤ tt
turns0 Unclosed g d = lit≤ tt

pub never_spent : (tree : Proof) → IsSpent l0 MOST_LEAVES tree → ⊥
never_spent tree s = let few_turns : turns_of tree ≤ 1 = turns0 tree s.unfinished.0 s.due in omega (arith, s.turns)

-- ---- cases

-- one `And` of the list can be taken apart, and nothing else
pub record GoesOneWay (claims : List Claim) (at : ℕ) (parts : Claim × Claim) : Type 0 where
  pub one : (n : ℕ) (p : Claim × Claim) → parts_at claims n ≡ Some p → (n ≡ at) × (p ≡ parts)
  pub none : (n : ℕ) (p : Claim × Claim) → sides_at claims n ≡ Some p → ⊥

way0 : GoesOneWay l0 0 (round_claim, Le behind)
way0 = record { one = one; none = none }
  where
    one : (n : ℕ) (p : Claim × Claim) → parts_at l0 n ≡ Some p → (n ≡ 0) × (p ≡ (round_claim, Le behind))
    one zero p e = (refl, cc)
    one (suc n) p e = absurd cc

    none : (n : ℕ) (p : Claim × Claim) → sides_at l0 n ≡ Some p → ⊥
    none zero p e = cc
    none (suc n) p e = cc

way1 : GoesOneWay l1 0 (known_claim, Le before)
way1 = record { one = one; none = none }
  where
    one : (n : ℕ) (p : Claim × Claim) → parts_at l1 n ≡ Some p → (n ≡ 0) × (p ≡ (known_claim, Le before))
    one zero p e = (refl, cc)
    one (suc zero) p e = absurd cc
    one (suc (suc n)) p e = absurd cc

    none : (n : ℕ) (p : Claim × Claim) → sides_at l1 n ≡ Some p → ⊥
    none zero p e = cc
    none (suc zero) p e = cc
    none (suc (suc n)) p e = cc

way2 : GoesOneWay l2 0 (True, amount_claim)
way2 = record { one = one; none = none }
  where
    one : (n : ℕ) (p : Claim × Claim) → parts_at l2 n ≡ Some p → (n ≡ 0) × (p ≡ (True, amount_claim))
    one zero p e = (refl, cc)
    one (suc zero) p e = absurd cc
    one (suc (suc zero)) p e = absurd cc
    one (suc (suc (suc n))) p e = absurd cc

    none : (n : ℕ) (p : Claim × Claim) → sides_at l2 n ≡ Some p → ⊥
    none zero p e = cc
    none (suc zero) p e = cc
    none (suc (suc zero)) p e = cc
    none (suc (suc (suc n))) p e = cc

way3 : GoesOneWay l3 3 (Le some, Le few)
way3 = record { one = one; none = none }
  where
    one : (n : ℕ) (p : Claim × Claim) → parts_at l3 n ≡ Some p → (n ≡ 3) × (p ≡ (Le some, Le few))
    one zero p e = absurd cc
    one (suc zero) p e = absurd cc
    one (suc (suc zero)) p e = absurd cc
    one (suc (suc (suc zero))) p e = (refl, cc)
    one (suc (suc (suc (suc n)))) p e = absurd cc

    none : (n : ℕ) (p : Claim × Claim) → sides_at l3 n ≡ Some p → ⊥
    none zero p e = cc
    none (suc zero) p e = cc
    none (suc (suc zero)) p e = cc
    none (suc (suc (suc zero))) p e = cc
    none (suc (suc (suc (suc n)))) p e = cc

no_way : (next : List Claim) → TakesApart l4 next → ⊥
no_way next (inl t) = none t.at t.parts t.there
  where
    none : (n : ℕ) (p : Claim × Claim) → parts_at l4 n ≡ Some p → ⊥
    none zero p e = cc
    none (suc zero) p e = cc
    none (suc (suc zero)) p e = cc
    none (suc (suc (suc zero))) p e = cc
    none (suc (suc (suc (suc zero)))) p e = cc
    none (suc (suc (suc (suc (suc n))))) p e = cc
no_way next (inr t) = none t.at t.sides t.there
  where
    none : (n : ℕ) (p : Claim × Claim) → sides_at l4 n ≡ Some p → ⊥
    none zero p e = cc
    none (suc zero) p e = cc
    none (suc (suc zero)) p e = cc
    none (suc (suc (suc zero))) p e = cc
    none (suc (suc (suc (suc zero)))) p e = cc
    none (suc (suc (suc (suc (suc n))))) p e = cc

goes : (claims next : List Claim) (at : ℕ) (parts : Claim × Claim) → GoesOneWay claims at parts → TakesApart claims next → next ≡ slice_set claims at parts.0 ++ parts.1 ∷ []
goes claims next at parts w (inl t) =
    let e = w.one t.at t.parts t.there in
    t.is ∙ ap (λ n. slice_set claims n t.parts.0 ++ t.parts.1 ∷ []) e.0 ∙ ap (λ (p : Claim × Claim). slice_set claims at p.0 ++ p.1 ∷ []) e.1
goes claims next at parts w (inr t) = absurd (w.none t.at t.sides t.there)

ends4 : (n : ℕ) (last : List Claim) → Becomes n l4 last → AreRows last → last ≡ l4
ends4 zero last b r = sym b
ends4 (suc n) last b r = absurd (no_way b.0 b.1)

ends3 : (n : ℕ) (last : List Claim) → Becomes n l3 last → AreRows last → last ≡ l4
ends3 zero last b r = absurd (subst AreRows (sym b) r)
ends3 (suc n) last b r = ends4 n last (subst (λ z. Becomes n z last) (goes l3 b.0 3 (Le some, Le few) way3 b.1) b.2) r

ends2 : (n : ℕ) (last : List Claim) → Becomes n l2 last → AreRows last → last ≡ l4
ends2 zero last b r = absurd (subst AreRows (sym b) r)
ends2 (suc n) last b r = ends3 n last (subst (λ z. Becomes n z last) (goes l2 b.0 0 (True, amount_claim) way2 b.1) b.2) r

ends1 : (n : ℕ) (last : List Claim) → Becomes n l1 last → AreRows last → last ≡ l4
ends1 zero last b r = absurd (subst AreRows (sym b) r)
ends1 (suc n) last b r = ends2 n last (subst (λ z. Becomes n z last) (goes l1 b.0 0 (known_claim, Le before) way1 b.1) b.2) r

ends0 : (n : ℕ) (last : List Claim) → Becomes n l0 last → AreRows last → last ≡ l4
ends0 zero last b r = absurd (subst AreRows (sym b) r)
ends0 (suc n) last b r = ends1 n last (subst (λ z. Becomes n z last) (goes l0 b.0 0 (round_claim, Le behind) way0 b.1) b.2) r

pub only_case : (last : List Claim) → IsCaseOf l0 last → rows_at last ≡ rows
only_case last c = ap rows_at (ends0 c.steps last c.becomes c.rows)

-- the rows of branches that are due are none
pub no_branches : (more : List Linear) → ComeFromDue rows more → more ≡ []
no_branches [] c = refl
no_branches (r ∷ more) c = absurd (none_due c.0.0 c.0.1 c.0.2)

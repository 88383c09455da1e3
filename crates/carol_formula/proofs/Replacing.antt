-- The state of taking a variable out of a term.
use Rattle.std.proofs.Common.{ℕ, ◌+◌, ◌≡◌, ◌≢◌, List, [], ◌∷◌, ◌++◌, append-nil, length, arith, sym, ◌∙◌, ap, subst}
use Rattle.std.specs.Prelude.{if◌then◌else◌, ℤ, ◌+ℤ◌}
use Rattle.std.proofs.Math.IntN.{+ℤ_idl}
use Rattle.carol_formula.specs.Bounds.{IsBelow, term_limit}
use Rattle.carol_formula.specs.Linear.{Linear, IsTerm, AscendsFrom, NoneZero, AllBelow, coefficient_of, without, without_of}
use Rattle.carol_formula.proofs.Orders.{by_same, other-eq}
use Rattle.carol_formula.proofs.Products.{AscendsFrom-lower, coefficient_of-first, share}
use Rattle.carol_formula.proofs.Merging.{nothing}

-- ---- what holds of a list's part

AscendsFrom-without : (low v : ℕ) (ps : List (ℕ × ℤ)) → AscendsFrom low ps → AscendsFrom low (without v ps)
AscendsFrom-without low v [] a = tt
AscendsFrom-without low v (p ∷ ps) a = by_same v p.0 (λ b. AscendsFrom low (if b then without v ps else (p ∷ without v ps)))
    (λ _. AscendsFrom-lower low (p.0 + 1) (without v ps) (omega (arith, a.0)) (AscendsFrom-without (p.0 + 1) v ps a.1))
    (λ _. (a.0, AscendsFrom-without (p.0 + 1) v ps a.1))

NoneZero-without : (v : ℕ) (ps : List (ℕ × ℤ)) → NoneZero ps → NoneZero (without v ps)
NoneZero-without v [] n = tt
NoneZero-without v (p ∷ ps) n = by_same v p.0 (λ b. NoneZero (if b then without v ps else (p ∷ without v ps))) (λ _. NoneZero-without v ps n.1) (λ _. (n.0, NoneZero-without v ps n.1))

AllBelow-without : (limit v : ℕ) (ps : List (ℕ × ℤ)) → AllBelow limit ps → AllBelow limit (without v ps)
AllBelow-without limit v [] h = tt
AllBelow-without limit v (p ∷ ps) h = by_same v p.0 (λ b. AllBelow limit (if b then without v ps else (p ∷ without v ps))) (λ _. AllBelow-without limit v ps h.1) (λ _. (h.0, AllBelow-without limit v ps h.1))

pub IsTerm-without_of : (v : ℕ) (t : Linear) → IsTerm t → IsTerm (without_of v t)
IsTerm-without_of v t h = record {
  normal = record { ascends = AscendsFrom-without 0 v t.pairs h.normal.ascends; none_zero = NoneZero-without v t.pairs h.normal.none_zero };
  within = record { coefficients = AllBelow-without term_limit v t.pairs h.within.coefficients; constant = h.within.constant };
}

-- ---- taking a variable out, a product at a time

-- what is kept so far, and what is left
pub record Sifting (v : ℕ) (whole kept left : List (ℕ × ℤ)) : Type 0 where
  pub is : kept ++ without v left ≡ without v whole

pub sift_end : (v : ℕ) (whole kept left : List (ℕ × ℤ)) → Sifting v whole kept left → length left ≡ 0 → kept ≡ without v whole
sift_end v whole kept left s e = sym (append-nil kept) ∙ ap (λ zs. kept ++ without v zs) (sym (nothing left e)) ∙ s.is

pub sifted : (v : ℕ) (t inside : Linear) (ps : List (ℕ × ℤ)) (r : ℤ) → IsTerm inside → inside ≡ t → ps ≡ without v t.pairs → r ≡ inside.rest → IsTerm (record { pairs = ps; rest = r })
sifted v t inside ps r h e f g = subst IsTerm (sym same) (IsTerm-without_of v t (subst IsTerm e h))
  where
    same : record { pairs = ps; rest = r } ≡ without_of v t
    same = ap (λ (zs : List (ℕ × ℤ)). record { pairs = zs; rest = r }) f ∙ ap (λ (z : ℤ). record { pairs = without v t.pairs; rest = z }) (g ∙ ap (λ (u : Linear). u.rest) e)

-- ---- looking for a coefficient

-- none of the products that are passed is of the variable
pub record Seeking (v : ℕ) (whole left : List (ℕ × ℤ)) : Type 0 where
  pub ascends : AscendsFrom 0 left
  pub below : AllBelow term_limit left
  pub is : coefficient_of v left ≡ coefficient_of v whole

pub seek_step : (v : ℕ) (whole left : List (ℕ × ℤ)) (p : ℕ × ℤ) (more : List (ℕ × ℤ)) → Seeking v whole left → left ≡ p ∷ more → p.0 ≢ v → Seeking v whole more
seek_step v whole left p more s e n = record {
  ascends = AscendsFrom-lower 0 (p.0 + 1) more (omega arith) (subst (AscendsFrom 0) e s.ascends).1;
  below = (subst (AllBelow term_limit) e s.below).1;
  is = sym (ap (coefficient_of v) e ∙ ap (λ b. share b p.1 +ℤ coefficient_of v more) (other-eq v p.0 (λ g. n (sym g))) ∙ +ℤ_idl (coefficient_of v more)) ∙ s.is;
}

pub seek_found : (v : ℕ) (whole left : List (ℕ × ℤ)) (p : ℕ × ℤ) (more : List (ℕ × ℤ)) → Seeking v whole left → left ≡ p ∷ more → p.0 ≡ v → (p.1 ≡ coefficient_of v whole) × IsBelow term_limit p.1
seek_found v whole left p more s e g = (found, (subst (AllBelow term_limit) e s.below).0)
  where
    found : p.1 ≡ coefficient_of v whole
    found = sym (ap (λ w. coefficient_of w left) (sym g) ∙ ap (coefficient_of p.0) e ∙ coefficient_of-first p more (subst (AscendsFrom 0) e s.ascends).1) ∙ s.is

-- What the truth of a formula comes to, as facts on whole numbers.
use Rattle.std.proofs.Common.{◌≡◌, ℕ, zero, suc, Bool, true, false, ◌⊎◌, inl, inr, refl, ap, arith}
use Rattle.std.specs.Prelude.{not, ◌&&◌, ◌||◌, ℤ, pos, negsuc, ◌≤ℤ◌}
use Rattle.std.proofs.lemmas.Int.{ints}
use Rattle.carol_formula.specs.Linear.{is_zero}
use Rattle.carol_formula.specs.Claim.{Claim, True, False, Le, Eq, Ne, And, Or, Not, truth, is_at_most_zero}
use Rattle.carol_formula.specs.Value.{value_at}

abbrev pub IsOther : ℤ → Type 0
IsOther z = (pos 1 ≤ℤ z) ⊎ (z ≤ℤ negsuc 0)

-- the formula is true, or false
abbrev pub Meant : Claim → Bool → (ℕ → ℤ) → Type 0
Meant True true f = Unit {0}
Meant True false f = ⊥
Meant False true f = ⊥
Meant False false f = Unit {0}
Meant (Le t) true f = value_at t f ≤ℤ pos 0
Meant (Le t) false f = pos 1 ≤ℤ value_at t f
Meant (Eq t) true f = value_at t f ≡ pos 0
Meant (Eq t) false f = IsOther (value_at t f)
Meant (Ne t) true f = IsOther (value_at t f)
Meant (Ne t) false f = value_at t f ≡ pos 0
Meant (And a b) true f = Meant a true f × Meant b true f
Meant (And a b) false f = Meant a false f ⊎ Meant b false f
Meant (Or a b) true f = Meant a true f ⊎ Meant b true f
Meant (Or a b) false f = Meant a false f × Meant b false f
Meant (Not a) true f = Meant a false f
Meant (Not a) false f = Meant a true f

low : (z : ℤ) → is_at_most_zero z ≡ true → z ≤ℤ pos 0
low (pos zero) h = omega (arith, ints)
low (pos (suc n)) h = absurd cc
low (negsuc n) h = omega (arith, ints)

high : (z : ℤ) → is_at_most_zero z ≡ false → pos 1 ≤ℤ z
high (pos zero) h = absurd cc
high (pos (suc n)) h = omega (arith, ints)
high (negsuc n) h = absurd cc

same : (z : ℤ) → is_zero z ≡ true → z ≡ pos 0
same (pos zero) h = refl
same (pos (suc n)) h = absurd cc
same (negsuc n) h = absurd cc

other : (z : ℤ) → is_zero z ≡ false → IsOther z
other (pos zero) h = absurd cc
other (pos (suc n)) h = inl (omega (arith, ints))
other (negsuc n) h = inr (omega (arith, ints))

both : (a b : Bool) → (a && b) ≡ true → (a ≡ true) × (b ≡ true)
both true b h = (refl, h)
both false b h = absurd cc

not_both : (a b : Bool) → (a && b) ≡ false → (a ≡ false) ⊎ (b ≡ false)
not_both true b h = inr h
not_both false b h = inl refl

one_of : (a b : Bool) → (a || b) ≡ true → (a ≡ true) ⊎ (b ≡ true)
one_of true b h = inl refl
one_of false b h = inr h

neither : (a b : Bool) → (a || b) ≡ false → (a ≡ false) × (b ≡ false)
neither true b h = absurd cc
neither false b h = (refl, h)

denied : (a b : Bool) → not a ≡ b → a ≡ not b
denied true b h = ap not h
denied false b h = ap not h

pub meant : (c : Claim) (b : Bool) (f : ℕ → ℤ) → truth c f ≡ b → Meant c b f
meant True true f h = tt
meant True false f h = cc
meant False true f h = cc
meant False false f h = tt
meant (Le t) true f h = low (value_at t f) h
meant (Le t) false f h = high (value_at t f) h
meant (Eq t) true f h = same (value_at t f) h
meant (Eq t) false f h = other (value_at t f) h
meant (Ne t) true f h = other (value_at t f) (denied (is_zero (value_at t f)) true h)
meant (Ne t) false f h = same (value_at t f) (denied (is_zero (value_at t f)) false h)
meant (And a b) true f h = let e = both (truth a f) (truth b f) h in (meant a true f e.0, meant b true f e.1)
meant (And a b) false f h = elim (not_both (truth a f) (truth b f) h) [ inl e ↦ inl (meant a false f e) | inr e ↦ inr (meant b false f e) ]
meant (Or a b) true f h = elim (one_of (truth a f) (truth b f) h) [ inl e ↦ inl (meant a true f e) | inr e ↦ inr (meant b true f e) ]
meant (Or a b) false f h = let e = neither (truth a f) (truth b f) h in (meant a false f e.0, meant b false f e.1)
meant (Not a) true f h = meant a false f (denied (truth a f) true h)
meant (Not a) false f h = meant a true f (denied (truth a f) false h)

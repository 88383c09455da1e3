-- What the parts of an `And`, and the sides of an `Or` or a `Ne`, have of the whole.
use Rattle.std.proofs.Common.{◌≡◌, ℕ, ◌+◌, ◌*◌, ◌<◌, ◌≤◌, List, [], ◌∷◌, refl, subst, arith, lit≤, inl, inr}
use Rattle.std.specs.Prelude.{Some, None, ℤ, pos, negsuc, ◌+ℤ◌, ◌*ℤ◌, ◌-ℤ◌}
use Rattle.std.proofs.Math.Nat.{mul-pos}
use Rattle.std.proofs.lemmas.Int.{ints}
use Rattle.carol_formula.specs.Bounds.{IsBelow, narrow_limit, row_limit}
use Rattle.carol_formula.specs.Linear.{Linear, IsWithin, AllBelow, times}
use Rattle.carol_formula.specs.Claim.{Claim, True, False, Le, Eq, Ne, And, Or, Not, HasNoNot, ClaimWithin, cases_of}
use Rattle.carol_cert.specs.Refutes.{parts_of, sides_of}
use Rattle.carol_cert.specs.Cases.{below_zero, above_zero}
use Rattle.carol_difference.specs.Rows.{IsUnit, AreOpposite, AreDifference}
use Rattle.carol_decide.specs.Sizes.{weight_of, OfDifferences, IsReady}
use Rattle.carol_formula.specs.Size.{nodes_of}
use Rattle.carol_decide.specs.Makes.{Makes}

-- ---- weights and cases

pub weight_positive : (c : Claim) → 1 ≤ weight_of c
weight_positive True = omega arith
weight_positive False = omega arith
weight_positive (Le t) = omega arith
weight_positive (Eq t) = omega arith
weight_positive (Ne t) = omega arith
weight_positive (And a b) = omega arith
weight_positive (Or a b) = omega arith
weight_positive (Not a) = omega arith

pub weight_of-nodes : (c : Claim) → weight_of c ≤ 2 * nodes_of c
weight_of-nodes True = omega arith
weight_of-nodes False = omega arith
weight_of-nodes (Le t) = omega arith
weight_of-nodes (Eq t) = omega arith
weight_of-nodes (Ne t) = omega arith
weight_of-nodes (And a b) = omega (arith, weight_of-nodes a, weight_of-nodes b)
weight_of-nodes (Or a b) = omega (arith, weight_of-nodes a, weight_of-nodes b)
weight_of-nodes (Not a) = omega arith

pub cases_positive : (c : Claim) → 0 < cases_of c
cases_positive True = omega arith
cases_positive False = omega arith
cases_positive (Le t) = omega arith
cases_positive (Eq t) = omega arith
cases_positive (Ne t) = omega arith
cases_positive (And a b) = mul-pos (cases_positive a) (cases_positive b)
cases_positive (Or a b) = omega (arith, cases_positive a, cases_positive b)
cases_positive (Not a) = omega arith

-- ---- differences

unit_minus : (c : ℤ) → IsUnit c → IsUnit (negsuc 0 *ℤ c)
unit_minus c (inl e) = inr (omega (arith, ints, e))
unit_minus c (inr e) = inl (omega (arith, ints, e))

opposite_minus : (c d : ℤ) → AreOpposite c d → AreOpposite (negsuc 0 *ℤ c) (negsuc 0 *ℤ d)
opposite_minus c d (inl h) = inr (omega (arith, ints, h.0), omega (arith, ints, h.1))
opposite_minus c d (inr h) = inl (omega (arith, ints, h.0), omega (arith, ints, h.1))

pub AreDifference-times : (ps : List (ℕ × ℤ)) → AreDifference ps → AreDifference (times (negsuc 0) ps)
AreDifference-times [] h = tt
AreDifference-times (p ∷ []) h = unit_minus p.1 h
AreDifference-times (p ∷ q ∷ []) h = opposite_minus p.1 q.1 h
AreDifference-times (p ∷ q ∷ r ∷ ps) h = absurd h

-- ---- limits

within_more : (limit : ℕ) (ps : List (ℕ × ℤ)) → narrow_limit ≤ limit → AllBelow narrow_limit ps → AllBelow limit ps
within_more limit [] l h = tt
within_more limit (p ∷ ps) l h = (omega (arith, h.0), within_more limit ps l h.1)

pub AllBelow-times : (limit : ℕ) (ps : List (ℕ × ℤ)) → AllBelow limit ps → AllBelow limit (times (negsuc 0) ps)
AllBelow-times limit [] h = tt
AllBelow-times limit (p ∷ ps) h = (minus_below p.1 h.0, AllBelow-times limit ps h.1)
  where
    minus_below : (z : ℤ) → IsBelow limit z → IsBelow limit (negsuc 0 *ℤ z)
    minus_below z h = omega (arith, ints)

limits : narrow_limit + 1 ≤ row_limit
limits = lit≤ tt

one_more : (z : ℤ) → IsBelow narrow_limit z → IsBelow row_limit (z +ℤ pos 1)
one_more z h = omega (arith, ints, limits)

one_less : (z : ℤ) → IsBelow narrow_limit z → IsBelow row_limit (pos 1 -ℤ z)
one_less z h = omega (arith, ints, limits)

pub below_within : (t : Linear) → IsWithin narrow_limit t → IsReady (below_zero t)
below_within t h = record { coefficients = within_more row_limit t.pairs (omega (arith, limits)) h.coefficients; constant = one_more t.rest h.constant }

pub above_within : (t : Linear) → IsWithin narrow_limit t → IsReady (above_zero t)
above_within t h = record { coefficients = AllBelow-times row_limit t.pairs (within_more row_limit t.pairs (omega (arith, limits)) h.coefficients); constant = one_less t.rest h.constant }

narrow_row : (t : Linear) → IsWithin narrow_limit t → IsWithin row_limit t
narrow_row t h = record { coefficients = within_more row_limit t.pairs (omega (arith, limits)) h.coefficients; constant = omega (arith, limits, h.constant) }

pub ready_from : (c : Claim) → HasNoNot c → ClaimWithin narrow_limit c → IsReady c
ready_from True n h = tt
ready_from False n h = tt
ready_from (Le t) n h = narrow_row t h
ready_from (Eq t) n h = narrow_row t h
ready_from (Ne t) n h = h
ready_from (And a b) n h = (ready_from a n.0 h.0, ready_from b n.1 h.1)
ready_from (Or a b) n h = (ready_from a n.0 h.0, ready_from b n.1 h.1)
ready_from (Not a) n h = absurd n

pub no_not_from : (c : Claim) → IsReady c → HasNoNot c
no_not_from True h = tt
no_not_from False h = tt
no_not_from (Le t) h = tt
no_not_from (Eq t) h = tt
no_not_from (Ne t) h = tt
no_not_from (And a b) h = (no_not_from a h.0, no_not_from b h.1)
no_not_from (Or a b) h = (no_not_from a h.0, no_not_from b h.1)
no_not_from (Not a) h = absurd h

-- ---- parts and sides

-- the parts of an `And`
pub record HaveParts (whole : Claim) (p : Claim × Claim) : Type 0 where
  pub ready : IsReady whole → IsReady p.0 × IsReady p.1
  pub differences : OfDifferences whole → OfDifferences p.0 × OfDifferences p.1
  pub lighter : weight_of p.0 + weight_of p.1 < weight_of whole
  pub cases : cases_of whole ≡ cases_of p.0 * cases_of p.1
  pub makes : (f : ℕ → ℤ) → Makes f p.0 → Makes f p.1 → Makes f whole

parts_along : (whole : Claim) (p q : Claim × Claim) → p ≡ q → HaveParts whole p → HaveParts whole q
parts_along whole p q e h = subst (HaveParts whole) e h

none_some : {A : Type 0} (a : A) → None ≡ Some a → ⊥
none_some a e = cc

some_same : {A : Type 0} (a b : A) → Some a ≡ Some b → a ≡ b
some_same a b e = cc

pub have_parts : (whole : Claim) (p : Claim × Claim) → parts_of whole ≡ Some p → HaveParts whole p
have_parts True p e = absurd (none_some p e)
have_parts False p e = absurd (none_some p e)
have_parts (Le t) p e = absurd (none_some p e)
have_parts (Eq t) p e = absurd (none_some p e)
have_parts (Ne t) p e = absurd (none_some p e)
have_parts (Or a b) p e = absurd (none_some p e)
have_parts (Not a) p e = absurd (none_some p e)
have_parts (And a b) p e =
    parts_along (And a b) (a, b) p (some_same (a, b) p e)
    (record { ready = λ h. h; differences = λ h. h; lighter = omega arith; cases = refl; makes = λ f x y. (x, y) })

-- the sides of an `Or` or a `Ne`
pub record HaveSides (whole : Claim) (p : Claim × Claim) : Type 0 where
  pub ready : IsReady whole → IsReady p.0 × IsReady p.1
  pub differences : OfDifferences whole → OfDifferences p.0 × OfDifferences p.1
  pub low_lighter : weight_of p.0 < weight_of whole
  pub high_lighter : weight_of p.1 < weight_of whole
  pub cases : cases_of whole ≡ cases_of p.0 + cases_of p.1
  pub makes_low : (f : ℕ → ℤ) → Makes f p.0 → Makes f whole
  pub makes_high : (f : ℕ → ℤ) → Makes f p.1 → Makes f whole

sides_along : (whole : Claim) (p q : Claim × Claim) → p ≡ q → HaveSides whole p → HaveSides whole q
sides_along whole p q e h = subst (HaveSides whole) e h

pub have_sides : (whole : Claim) (p : Claim × Claim) → sides_of whole ≡ Some p → HaveSides whole p
have_sides True p e = absurd (none_some p e)
have_sides False p e = absurd (none_some p e)
have_sides (Le t) p e = absurd (none_some p e)
have_sides (Eq t) p e = absurd (none_some p e)
have_sides (And a b) p e = absurd (none_some p e)
have_sides (Not a) p e = absurd (none_some p e)
have_sides (Or a b) p e =
    sides_along (Or a b) (a, b) p (some_same (a, b) p e)
    (record { ready = λ h. h; differences = λ h. h; low_lighter = omega arith; high_lighter = omega arith; cases = refl; makes_low = λ f x. inl x; makes_high = λ f x. inr x })
have_sides (Ne t) p e =
    sides_along (Ne t) (below_zero t, above_zero t) p (some_same (below_zero t, above_zero t) p e)
    (record { ready = λ h. (below_within t h, above_within t h); differences = λ h. (h, AreDifference-times t.pairs h); low_lighter = omega arith; high_lighter = omega arith; cases = refl; makes_low = λ f x. inl x; makes_high = λ f x. inr x })

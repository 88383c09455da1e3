-- A value, or a branch that is due, from the bounds of a stage.
use Prim.Native.Nat.{◌∣◌}
use Rattle.std.proofs.Common.{ℕ, zero, suc, ◌+◌, ◌*◌, ◌/◌, ◌<◌, ◌≤◌, ◌≡◌, ◌≢◌, Bool, true, List, [], ◌∷◌, ◌++◌, Option, None, Some, refl, sym, ◌∙◌, ap, subst, arith, inl, inr}
use Rattle.std.specs.Prelude.{MatchBool, IfSome, ℤ, pos, negsuc, ◌+ℤ◌, ◌*ℤ◌, ◌≤ℤ◌, ◌<ℤ◌, unsigned_abs}
use Rattle.std.proofs.lemmas.Int.{ints, by_lt_z}
use Rattle.std.proofs.lemmas.Nat.Gcd.{mod-eq-zero_of_dvd}
use Rattle.carol_formula.specs.Bounds.{IsBelow, term_limit}
use Rattle.carol_formula.specs.Linear.{Linear}
use Rattle.carol_formula.specs.Value.{value_at, set_at}
use Rattle.carol_formula.proofs.Orders.{equal-eq, other-eq}
use Rattle.carol_formula.proofs.Sums.{value_at-sum_of, value_at-scaled}
use Rattle.carol_elimination.specs.Tightened.{divisor}
use Rattle.carol_elimination.specs.Stage.{Among, factor_of, is_upper, is_lower, multiplier, upper_part, lower_part, least, next, eliminated}
use Rattle.carol_elimination.specs.Values.{IsTrueRow, AreTrueRows, Allow, IsNearer, IsChosen, AreChosen}
use Rattle.carol_elimination.specs.Due.{HasNoWhole, IsFloor, IsStuck}
use Rattle.carol_elimination.specs.Stands.{Stand}
use Rattle.carol_elimination.specs.Free.{IsFree, IsIn, Ascend}
use Rattle.carol_elimination.proofs.Divisors.{IsGcd-divisor}
use Rattle.carol_elimination.proofs.Free.{cancelled, free_next}
use Rattle.carol_elimination.proofs.Kept.{no_whole_from, floor_from}
use Rattle.carol_elimination.proofs.Truth.{fraction_from}
use Rattle.carol_elimination.specs.declared.bounds.Bounds.{Bounds}
use Rattle.carol_elimination.specs.Limits.{IsAtMost, IsAtLeast, AllowAbove, AllowBelow, AreBounds, IsNearestWithin, IsBelowBoth}
use Rattle.carol_elimination.proofs.Setting.{at_itself, at_other, set_twice, set_apart, value_free}
use Rattle.carol_elimination.proofs.Bounding.{has_side, side_stands}

-- ---- what the rows allow, on both sides

allow_sides : (x : ℕ) (rows : List Linear) (f : ℕ → ℤ) (z : ℤ) → AllowAbove x rows f z → AllowBelow x rows f z → Allow x rows f z
allow_sides x rows f z above below r among stands = elim (has_side (factor_of x r) stands) [ inl upper ↦ above r among upper | inr lower ↦ below r among lower ]

allow_above : (x : ℕ) (rows : List Linear) (f : ℕ → ℤ) (z : ℤ) → Allow x rows f z → AllowAbove x rows f z
allow_above x rows f z allow r among upper = allow r among (side_stands (factor_of x r) (inl upper))

allow_below : (x : ℕ) (rows : List Linear) (f : ℕ → ℤ) (z : ℤ) → Allow x rows f z → AllowBelow x rows f z
allow_below x rows f z allow r among lower = allow r among (side_stands (factor_of x r) (inr lower))

-- ---- a chosen value

allow_again : (x : ℕ) (rows : List Linear) (f : ℕ → ℤ) (w z : ℤ) → Allow x rows f z → Allow x rows (set_at x w f) z
allow_again x rows f w z allow r among stands = subst (λ (g : ℕ → ℤ). IsTrueRow g r) (sym (set_twice x z w f)) (allow r among stands)

allow_before : (x : ℕ) (rows : List Linear) (f : ℕ → ℤ) (w z : ℤ) → Allow x rows (set_at x w f) z → Allow x rows f z
allow_before x rows f w z allow r among stands = subst (λ (g : ℕ → ℤ). IsTrueRow g r) (set_twice x z w f) (allow r among stands)

-- the number that is nearest within the bounds is chosen
pub chosen_at : (x : ℕ) (rows : List Linear) (f : ℕ → ℤ) (b : Bounds) (w : ℤ) → AreBounds x rows f b → IsNearestWithin b w → IsChosen x rows (set_at x w f)
chosen_at x rows f b w are near = record {
  allowed = subst (Allow x rows (set_at x w f)) (sym (at_itself x w f)) (allow_again x rows f w w (allow_sides x rows f w ((are.above w).1 near.high) ((are.below w).1 near.low)));
  nearest = λ z allow. let before = allow_before x rows f w z allow in subst (λ (y : ℤ). IsNearer y z) (sym (at_itself x w f)) (near.nearest z ((are.above z).0 (allow_above x rows f z before)) ((are.below z).0 (allow_below x rows f z before)));
}

-- ---- values of the other variables stay chosen

other_value : (x v : ℕ) (y z : ℤ) (r : Linear) (f : ℕ → ℤ) → v ≢ x → factor_of x r ≡ pos 0 → value_at r (set_at v y (set_at x z f)) ≡ value_at r (set_at v y f)
other_value x v y z r f apart free = ap (value_at r) (set_apart x v y z f apart) ∙ value_free x z r (set_at v y f) free

pub others_chosen : (x : ℕ) (z : ℤ) (vs : List ℕ) (rows : List Linear) (f : ℕ → ℤ) → IsFree x rows → (IsIn x vs → ⊥) → AreChosen vs rows f → AreChosen vs rows (set_at x z f)
others_chosen x z [] rows f free out chosen = tt
others_chosen x z (v ∷ vs) rows f free out chosen = (
  record {
    allowed = subst (Allow v rows (set_at x z f)) (sym (at_other x v z f apart)) (to (f v) chosen.0.allowed);
    nearest = λ y allow. subst (λ (w : ℤ). IsNearer w y) (sym (at_other x v z f apart)) (chosen.0.nearest y (from y allow));
  },
  others_chosen x z vs (next v rows) f (free_next x v rows free) (λ i. out (inr i)) chosen.1,
)
  where
    apart : v ≢ x
    apart e = out (inl (sym e))

    to : (y : ℤ) → Allow v rows f y → Allow v rows (set_at x z f) y
    to y allow r among stands = subst (λ (w : ℤ). w ≤ℤ pos 0) (sym (other_value x v y z r f apart (free r among))) (allow r among stands)

    from : (y : ℤ) → Allow v rows (set_at x z f) y → Allow v rows f y
    from y allow r among stands = subst (λ (w : ℤ). w ≤ℤ pos 0) (other_value x v y z r f apart (free r among)) (allow r among stands)

-- ---- a variable without a value

quotient_stands : (g n : ℕ) → g ∣ n → n ≢ 0 → n / g ≢ 0
quotient_stands g n divides stands none =
    let whole : g * (n / g) ≡ n = omega (arith, mod-eq-zero_of_dvd g divides) in
    stands (sym whole ∙ ap (λ (q : ℕ). g * q) none ∙ omega arith)

abs_stands : (c : ℤ) → c ≢ pos 0 → unsigned_abs c ≢ 0
abs_stands (pos n) stands e = stands (ap pos e)
abs_stands (negsuc n) stands e = absurd (omega arith)

-- of two multiples that are at most 0 together, where one isn't below 0
first_at_most : (m n : ℕ) (a b : ℤ) → m ≢ 0 → ((pos m *ℤ a) +ℤ (pos n *ℤ b)) ≤ℤ pos 0 → pos 0 ≤ℤ b → a ≤ℤ pos 0
first_at_most zero n a b stands sum least_ = absurd (stands refl)
first_at_most (suc m) n (pos zero) b stands sum least_ = omega (arith, ints)
first_at_most (suc m) n (negsuc k) b stands sum least_ = omega (arith, ints)
first_at_most (suc m) n (pos (suc k)) (pos j) stands sum least_ = absurd (omega (arith, ints))
first_at_most (suc m) n (pos (suc k)) (negsuc j) stands sum least_ = absurd (omega (arith, ints))

-- a number that a row which bounds the variable below doesn't put above it is allowed by the row that bounds
-- it above, since their combination holds
upper_holds : (x : ℕ) (u l : Linear) (f : ℕ → ℤ) (k : ℤ) → is_upper x u ≡ true → is_lower x l ≡ true → IsTrueRow f (least x u l) → pos 0 ≤ℤ value_at l (set_at x k f) → IsTrueRow (set_at x k f) u
upper_holds x u l f k upper lower holds at_least =
    first_at_most (unsigned_abs (factor_of x l) / divisor (unsigned_abs (factor_of x u)) (unsigned_abs (factor_of x l))) (unsigned_abs (factor_of x u) / divisor (unsigned_abs (factor_of x l)) (unsigned_abs (factor_of x u))) (value_at u g) (value_at l g)
    (quotient_stands (divisor (unsigned_abs (factor_of x u)) (unsigned_abs (factor_of x l))) (unsigned_abs (factor_of x l)) (IsGcd-divisor (unsigned_abs (factor_of x u)) (unsigned_abs (factor_of x l))).1 (abs_stands (factor_of x l) (side_stands (factor_of x l) (inr lower))))
    (subst (λ (z : ℤ). z ≤ℤ pos 0) value holds)
    at_least
  where
    g : ℕ → ℤ
    g = set_at x k f

    value : value_at (least x u l) f ≡ (multiplier (factor_of x u) (factor_of x l) *ℤ value_at u g) +ℤ (multiplier (factor_of x l) (factor_of x u) *ℤ value_at l g)
    value =
        sym (value_free x k (least x u l) f (cancelled x u l upper lower))
        ∙ value_at-sum_of (upper_part x u l) (lower_part x u l) g
        ∙ ap (λ (z : ℤ). z +ℤ value_at (lower_part x u l) g) (value_at-scaled (multiplier (factor_of x u) (factor_of x l)) u g)
        ∙ ap (λ (z : ℤ). (multiplier (factor_of x u) (factor_of x l) *ℤ value_at u g) +ℤ z) (value_at-scaled (multiplier (factor_of x l) (factor_of x u)) l g)

-- a value that isn't at least 0 is below it
below_zero : (v : ℤ) → (pos 0 ≤ℤ v → ⊥) → v <ℤ pos 0
below_zero (pos n) denied = absurd (denied (omega (arith, ints)))
below_zero (negsuc n) denied = omega (arith, ints)

-- k is the floor of the greatest lower bound, where k + 1 is the low bound and is more than the high one
floor_at : (x : ℕ) (rows : List Linear) (f : ℕ → ℤ) (b : Bounds) (k : ℤ) → AreBounds x rows f b → IsBelowBoth b k → ((u l : Linear) → Among u rows → is_upper x u ≡ true → Among l rows → is_lower x l ≡ true → IsTrueRow f (least x u l)) → IsFloor x rows f k
floor_at x rows f b k are stuck fraction =
    let low = are.tight k stuck.low in
    record {
      below = λ l among lower. below_zero (value_at l (set_at x (k +ℤ pos 1) f)) (λ at_least. stuck.high ((are.above (k +ℤ pos 1)).0 (λ u is upper. upper_holds x u l f (k +ℤ pos 1) upper lower (fraction u l is upper among lower) at_least)));
      reached = (low.row, low.among, low.lower, above low.positive);
    }
  where
    above : {v : ℤ} → pos 0 <ℤ v → pos 0 ≤ℤ v
    above h = omega (arith, ints)

at_most_before : (high : Option ℤ) (y z : ℤ) → y ≤ℤ z → IsAtMost high z → IsAtMost high y
at_most_before None y z le at_most = tt
at_most_before (Some h) y z le at_most = omega (arith, ints)

low_is : (low : Option ℤ) (m z : ℤ) → low ≡ Some m → IsAtLeast low z → m ≤ℤ z
low_is low m z e at_least = subst (λ (o : Option ℤ). IsAtLeast o z) e at_least

no_whole_at : (x : ℕ) (rows : List Linear) (f : ℕ → ℤ) (b : Bounds) (k : ℤ) → AreBounds x rows f b → IsBelowBoth b k → (z : ℤ) → ¬ Allow x rows f z
no_whole_at x rows f b k are stuck z allow = stuck.high (at_most_before b.high (k +ℤ pos 1) z (low_is b.low (k +ℤ pos 1) z stuck.low ((are.below z).0 (allow_below x rows f z allow))) ((are.above z).0 (allow_above x rows f z allow)))

-- what the kept rows leave open, all rows of the stage leave open
pub record IsStuckStage (x : ℕ) (rows : List Linear) (f : ℕ → ℤ) (k : ℤ) : Type 0 where
  pub none : HasNoWhole x rows f
  pub floor : IsFloor x rows f k

pub stuck_stage : (x : ℕ) (kept rows : List Linear) (f : ℕ → ℤ) (b : Bounds) (k : ℤ) → Stand kept rows → AreTrueRows f (next x rows) → AreBounds x kept f b → IsBelowBoth b k → IsStuckStage x rows f k
stuck_stage x kept rows f b k stand later are stuck =
    let fraction = fraction_from x rows f later in
    record {
      none = record { fraction = fraction; no_whole = no_whole_from x kept rows f stand (no_whole_at x kept f b k are stuck) };
      floor = floor_from x kept rows f k stand (floor_at x kept f b k are stuck (λ u l hu tu hl tl. fraction u l (stand.chosen u hu) tu (stand.chosen l hl) tl));
    }

-- ---- bounds of k

pub k_small : (x : ℕ) (rows : List Linear) (f : ℕ → ℤ) (b : Bounds) (k : ℤ) → AreBounds x rows f b → IsBelowBoth b k → IsBelow term_limit k × IsBelow term_limit (k +ℤ pos 1)
k_small x rows f b k are stuck =
    let next_small : IsBelow term_limit (k +ℤ pos 1) = subst (λ (o : Option ℤ). IfSome o (IsBelow term_limit)) stuck.low are.low_small in
    (from b.high are.high_small stuck.high next_small, next_small)
  where
    apart : (h : ℤ) → IsBelow term_limit h → ((k +ℤ pos 1) ≤ℤ h → ⊥) → IsBelow term_limit (k +ℤ pos 1) → IsBelow term_limit k
    apart h small above next_small = by_lt_z h (k +ℤ pos 1) (λ less. omega (arith, ints, small, next_small)) (λ le. absurd (above le))

    from : (high : Option ℤ) → IfSome high (IsBelow term_limit) → (IsAtMost high (k +ℤ pos 1) → ⊥) → IsBelow term_limit (k +ℤ pos 1) → IsBelow term_limit k
    from None small above next_small = absurd (above tt)
    from (Some h) small above next_small = apart h small above next_small

-- ---- the variables before

-- what is below each number of a list isn't in it
pub not_in : (low v : ℕ) (vs : List ℕ) → Ascend low vs → v < low → IsIn v vs → ⊥
not_in low v [] ascend below i = i
not_in low v (w ∷ ws) ascend below i = elim i [
  | inl same ↦ absurd (omega (arith, same, ascend.0))
  | inr later ↦ not_in (w + 1) v ws ascend.1 (omega (arith, ascend.0)) later
]

pub ascend_at : (low : ℕ) (before : List ℕ) (x : ℕ) (after : List ℕ) → Ascend low (before ++ x ∷ after) → (low ≤ x) × Ascend (x + 1) after
ascend_at low [] x after ascend = (ascend.0, ascend.1)
ascend_at low (v ∷ vs) x after ascend = let later = ascend_at (v + 1) vs x after ascend.1 in (omega (arith, ascend.0, later.0), later.1)

pub stuck_in : (low : ℕ) (before : List ℕ) (x : ℕ) (after : List ℕ) (rows : List Linear) (f : ℕ → ℤ) (k : ℤ) → Ascend low (before ++ x ∷ after) → IsStuckStage x (eliminated before rows) f k → AreChosen after (next x (eliminated before rows)) f → IsStuck x k f (before ++ x ∷ after) rows
stuck_in low [] x after rows f k ascend stuck chosen = subst (λ (b : Bool). MatchBool b (HasNoWhole x rows f × IsFloor x rows f k × AreChosen after (next x rows) f) (IsStuck x k f after (next x rows))) (sym (equal-eq x x refl)) (stuck.none, stuck.floor, chosen)
stuck_in low (v ∷ vs) x after rows f k ascend stuck chosen =
    let later = ascend_at (v + 1) vs x after ascend.1 in
    let apart : x ≢ v = λ e. absurd (omega (arith, later.0)) in
    subst (λ (b : Bool). MatchBool b (HasNoWhole x rows f × IsFloor x rows f k × AreChosen (vs ++ x ∷ after) (next x rows) f) (IsStuck x k f (vs ++ x ∷ after) (next v rows))) (sym (other-eq x v apart)) (stuck_in (v + 1) vs x after (next v rows) f k ascend.1 stuck chosen)

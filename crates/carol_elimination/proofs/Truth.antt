-- Rows of a stage are true where those of the next stage are and the variable's number is allowed.
use Rattle.std.proofs.Common.{ℕ, zero, suc, ◌≡◌, Bool, true, false, List, [], ◌∷◌, refl, sym, ◌∙◌, ap, subst, arith}
use Prim.Native.Nat.{◌∣◌}
use Rattle.std.specs.Prelude.{if◌then◌else◌, ℤ, pos, ◌+ℤ◌, ◌*ℤ◌, ◌≤ℤ◌, unsigned_abs}
use Rattle.std.proofs.lemmas.Bool.{false≢true}
use Rattle.std.proofs.lemmas.Nat.Gcd.{dvd_trans, mod-eq-zero_of_dvd, dvd_refl}
use Rattle.carol_formula.specs.Linear.{Linear, is_zero}
use Rattle.carol_formula.specs.Value.{sum_at, set_at}
use Rattle.carol_formula.specs.Division.{EachDivides}
use Rattle.carol_formula.proofs.Orders.{by_same}
use Rattle.carol_formula.proofs.Division.{quotient_same}
use Rattle.carol_elimination.specs.Tightened.{divisor, content_with, content, divided, tightened}
use Rattle.carol_elimination.specs.Stage.{Among, factor_of, is_upper, is_lower, least, next, eliminated}
use Rattle.carol_elimination.specs.Values.{IsTrueRow, AreTrueRows, Allow, AreChosen}
use Rattle.carol_elimination.proofs.Divisors.{IsGcd-divisor}
use Rattle.carol_elimination.proofs.Standing.{next_kept, next_combined}

-- ---- a row and what it is divided to

-- what divides the greatest common divisor of a number and the coefficients divides each of them
each_divides_from : (d g : ℕ) (ps : List (ℕ × ℤ)) → d ∣ content_with g ps → (d ∣ g) × EachDivides d ps
each_divides_from d g [] h = (h, tt)
each_divides_from d g (p ∷ ps) h =
    let is = IsGcd-divisor g (unsigned_abs p.1) in
    let more = each_divides_from d (divisor g (unsigned_abs p.1)) ps h in
    (dvd_trans d more.0 is.0, (mod-eq-zero_of_dvd d (dvd_trans d more.0 is.1), more.1))

pub each_divides : (ps : List (ℕ × ℤ)) → EachDivides (content ps) ps
each_divides ps = (each_divides_from (content ps) 0 ps (dvd_refl (content ps))).1

divided_true : (d : ℕ) (t : Linear) (f : ℕ → ℤ) → d ≡ content t.pairs → IsTrueRow f (divided d t) → IsTrueRow f t
divided_true zero t f e h = h
divided_true (suc d) t f e h = (quotient_same (suc d) t f (omega arith) (subst (λ (n : ℕ). EachDivides n t.pairs) (sym e) (each_divides t.pairs))).0 h

pub tightened_true : (t : Linear) (f : ℕ → ℤ) → IsTrueRow f (tightened t) → IsTrueRow f t
tightened_true t f h = divided_true (content t.pairs) t f refl h

-- ---- from the next stage to this one

set_itself : (x : ℕ) (f : ℕ → ℤ) (v : ℕ) → set_at x (f x) f v ≡ f v
set_itself x f v = by_same v x (λ b. (if b then f x else f v) ≡ f v) (λ e. ap f (sym e)) (λ n. refl)

sum_same : (ps : List (ℕ × ℤ)) (f g : ℕ → ℤ) → ((v : ℕ) → f v ≡ g v) → sum_at ps f ≡ sum_at ps g
sum_same [] f g h = refl
sum_same (p ∷ ps) f g h = ap (λ (z : ℤ). (p.1 *ℤ z) +ℤ sum_at ps f) (h p.0) ∙ ap (λ (z : ℤ). (p.1 *ℤ g p.0) +ℤ z) (sum_same ps f g h)

at_its_number : (x : ℕ) (f : ℕ → ℤ) (r : Linear) → IsTrueRow (set_at x (f x) f) r → IsTrueRow f r
at_its_number x f r h = subst (λ (z : ℤ). (z +ℤ r.rest) ≤ℤ pos 0) (sum_same r.pairs (set_at x (f x) f) f (set_itself x f)) h

pub stage_true : (x : ℕ) (rows : List Linear) (f : ℕ → ℤ) → AreTrueRows f (next x rows) → Allow x rows f (f x) → AreTrueRows f rows
stage_true x rows f true_next allow r among = by_case (is_zero (factor_of x r)) refl
  where
    by_case : (b : Bool) → is_zero (factor_of x r) ≡ b → IsTrueRow f r
    by_case true e = true_next r (next_kept x r rows among e)
    by_case false e = at_its_number x f r (allow r among (λ z. false≢true (sym e ∙ ap is_zero z)))

-- where all variables have chosen values, the rows are true if the last ones are
pub chosen_true : (vs : List ℕ) (rows : List Linear) (f : ℕ → ℤ) → AreTrueRows f (eliminated vs rows) → AreChosen vs rows f → AreTrueRows f rows
chosen_true [] rows f last chosen = last
chosen_true (x ∷ xs) rows f last chosen = stage_true x rows f (chosen_true xs (next x rows) f last chosen.1) chosen.0.allowed

-- true rows of the next stage allow a fraction
pub fraction_from : (x : ℕ) (rows : List Linear) (f : ℕ → ℤ) → AreTrueRows f (next x rows) → (u l : Linear) → Among u rows → is_upper x u ≡ true → Among l rows → is_lower x l ≡ true → IsTrueRow f (least x u l)
fraction_from x rows f true_next u l hu tu hl tl = tightened_true (least x u l) f (true_next (tightened (least x u l)) (next_combined x u l rows hu tu hl tl))

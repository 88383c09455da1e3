-- Refinements of a well-formed program can be evaluated at arguments that are words.
use Rattle.std.proofs.Common.{ℕ, zero, suc, ◌+◌, ◌-◌, ◌*◌, ◌≤◌, ◌<◌, Bool, true, false, List, [], ◌∷◌, length, get_or, arith}
use Rattle.std.specs.Prelude.{ℤ, pos, negsuc, unsigned_abs, if◌then◌else◌, nat_lt}
use Rattle.std.specs.List.{AllByRecursion}
use Rattle.carol_store.specs.Kinds.{IsWord}
use Rattle.carol_store.specs.Stores.{AreWords}
use Rattle.carol_formula.specs.Bounds.{AreNear, value_limit}
use Rattle.carol_formula.specs.Claim.{Claim, True, False, Le, Eq, Ne, And, Or, Not, EachTerm, ClaimFits}
use Rattle.carol_formula.specs.Linear.{Linear, AllBelow}
use Rattle.carol_formula.specs.Value.{Fits}
use Rattle.carol_formula.specs.Weight.{mass}
use Rattle.carol_formula.proofs.Weights.{mass-bound, FitsWithin-near}
use Rattle.carol_program.specs.Variables.{number_of_args}
use Rattle.carol_program.specs.WellFormed.{AreSmall, AreRefinements, IsTermOver}

-- ---- words are near

-- the greatest absolute value of a word
abbrev word_bound : ℕ
word_bound = 9223372036854775808

near-word : (z : ℤ) → IsWord z → unsigned_abs z ≤ word_bound
near-word (pos n) h = omega (arith, h.sfits)
near-word (negsuc n) h = omega (arith, h.sfits)

near-arg : (args : List ℤ) (k : ℕ) → AreWords args → unsigned_abs (get_or args k (pos 0)) ≤ word_bound
near-arg [] k h = omega arith
near-arg (arg ∷ args) zero h = near-word arg h.0
near-arg (arg ∷ args) (suc k) h = near-arg args k h.1

near-either : (b : Bool) (x : ℤ) → unsigned_abs x ≤ word_bound → unsigned_abs (if b then pos 0 else x) ≤ word_bound
near-either true x h = omega arith
near-either false x h = h

near-args : (args : List ℤ) → AreWords args → AreNear word_bound (number_of_args args)
near-args args h v = near-either (nat_lt v 32) (get_or args (v - 32) (pos 0)) (near-arg args (v - 32) h)

-- ---- what is small fits where the numbers are near

small-below : (ps : List (ℕ × ℤ)) → AreSmall ps → AllBelow 1000000001 ps
small-below [] h = tt
small-below (p ∷ ps) h = (omega (arith, h.0), small-below ps h.1)

light : (m n r : ℕ) → m ≤ n * 1000000001 → n ≤ 256 → r ≤ 1000000000000000 → m * word_bound + r < value_limit
light m n r h k l = omega arith

term_fits : {ranges : List (ℕ × ℕ)} (t : Linear) (f : ℕ → ℤ) → IsTermOver ranges t → AreNear word_bound f → Fits t f
term_fits t f h near = FitsWithin-near value_limit word_bound t f near (light (mass t.pairs) (length t.pairs) (unsigned_abs t.rest) (mass-bound 1000000001 t.pairs (small-below t.pairs h.small.0)) h.short h.small.1)

claim_fits : (ranges : List (ℕ × ℕ)) (c : Claim) (f : ℕ → ℤ) → EachTerm (IsTermOver ranges) c → AreNear word_bound f → ClaimFits c f
claim_fits ranges True f h near = tt
claim_fits ranges False f h near = tt
claim_fits ranges (Le t) f h near = term_fits t f h near
claim_fits ranges (Eq t) f h near = term_fits t f h near
claim_fits ranges (Ne t) f h near = term_fits t f h near
claim_fits ranges (And a b) f h near = (claim_fits ranges a f h.0 near, claim_fits ranges b f h.1 near)
claim_fits ranges (Or a b) f h near = (claim_fits ranges a f h.0 near, claim_fits ranges b f h.1 near)
claim_fits ranges (Not a) f h near = claim_fits ranges a f h near

-- the refinements of parameters, behind so many others
pub refinements_fit : (before : ℕ) (cs : List Claim) (args : List ℤ) → AreRefinements before cs → AreWords args → AllByRecursion (λ c. ClaimFits c (number_of_args args)) cs
refinements_fit before [] args h words = tt
refinements_fit before (c ∷ cs) args h words = (claim_fits _ c (number_of_args args) h.0.terms (near-args args words), refinements_fit (before + 1) cs args h.1 words)

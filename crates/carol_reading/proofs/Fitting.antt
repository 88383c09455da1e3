-- Terms of a well-formed program can be added up at words.
use Rattle.std.proofs.Common.{ℕ, zero, suc, ◌+◌, ◌*◌, ◌≤◌, ◌<◌, Bool, true, false, List, [], ◌∷◌, length, arith}
use Rattle.std.specs.Prelude.{ℤ, pos, negsuc, unsigned_abs, if◌then◌else◌, nat_lt, ◌-◌, get_or}
use Rattle.std.specs.List.{AllByRecursion}
use Rattle.carol_store.specs.declared.shape.CellKind.{CellKind}
use Rattle.carol_store.specs.Kinds.{CellValue, IsWord}
use Rattle.carol_store.specs.Stores.{AreWords}
use Rattle.carol_formula.specs.Bounds.{AreNear, value_limit}
use Rattle.carol_formula.specs.Claim.{Claim, True, False, Le, Eq, Ne, And, Or, Not, EachTerm, ClaimFits}
use Rattle.carol_formula.specs.Linear.{Linear, AllBelow}
use Rattle.carol_formula.specs.Value.{Fits}
use Rattle.carol_formula.specs.Weight.{mass}
use Rattle.carol_formula.proofs.Weights.{mass-bound, FitsWithin-near}
use Rattle.carol_program.specs.declared.steps.Part.{Part}
use Rattle.carol_program.specs.Variables.{number_in, number_of_args, query_variable}
use Rattle.carol_program.specs.WellFormed.{AreSmall, IsTermOver, IsPartOver}
use Rattle.carol_reading.specs.Parts.{AmountsFit}
use Rattle.carol_reading.specs.Readings.{number_or, with_query, with_queries}

-- the greatest absolute value of a word
abbrev pub word_bound : ℕ
word_bound = 9223372036854775808

-- ---- numbers are near

near-word : (z : ℤ) → IsWord z → unsigned_abs z ≤ word_bound
near-word (pos n) h = omega (arith, h.sfits)
near-word (negsuc n) h = omega (arith, h.sfits)

near-number_in : (store : List CellValue) (v : ℕ) → AreWords store → unsigned_abs (number_in store v) ≤ word_bound
near-number_in [] v h = omega arith
near-number_in (value ∷ values) zero h = near-word value h.0
near-number_in (value ∷ values) (suc v) h = near-number_in values v h.1

near-either : (b : Bool) (x y : ℤ) → unsigned_abs x ≤ word_bound → unsigned_abs y ≤ word_bound → unsigned_abs (if b then x else y) ≤ word_bound
near-either true x y h g = h
near-either false x y h g = g

near-number_or : (base : ℕ) (store : List CellValue) (number : ℤ) (v : ℕ) → AreWords store → unsigned_abs number ≤ word_bound → unsigned_abs (number_or base store number v) ≤ word_bound
near-number_or base store number v h g = near-either (nat_lt v base) number _ g (near-either (nat_lt v (base + length store)) (number_in store (v - base)) number (near-number_in store (v - base) h) g)

near-args : (args : List ℤ) → AreWords args → AreNear word_bound (number_of_args args)
near-args args h v = near-either (nat_lt v 32) (pos 0) (get_or args (v - 32) (pos 0)) (omega arith) (near-number_in args (v - 32) h)

near-queries : (slots : List ℕ) (stores : List (List CellValue)) (f : ℕ → ℤ) → AllByRecursion AreWords stores → AreNear word_bound f → AreNear word_bound (with_queries slots stores f)
near-queries [] stores f h near = near
near-queries (slot ∷ slots) [] f h near = near
near-queries (slot ∷ slots) (store ∷ stores) f h near = near-queries slots stores (with_query slot store f) h.1 (λ v. near-number_or (query_variable slot 0) store (f v) v h.0 (near v))

-- the numbers of arguments and queries that are words
pub near-numbers : (args : List ℤ) (slots : List ℕ) (stores : List (List CellValue)) → AreWords args → AllByRecursion AreWords stores → AreNear word_bound (with_queries slots stores (number_of_args args))
near-numbers args slots stores a h = near-queries slots stores (number_of_args args) h (near-args args a)

-- ---- terms fit

small-below : (ps : List (ℕ × ℤ)) → AreSmall ps → AllBelow 1000000001 ps
small-below [] h = tt
small-below (p ∷ ps) h = (omega (arith, h.0), small-below ps h.1)

light : (m n r : ℕ) → m ≤ n * 1000000001 → n ≤ 256 → r ≤ 1000000000000000 → m * word_bound + r < value_limit
light m n r h k l = omega arith

pub term_fits : {ranges : List (ℕ × ℕ)} (t : Linear) (f : ℕ → ℤ) → IsTermOver ranges t → AreNear word_bound f → Fits t f
term_fits t f h near = FitsWithin-near value_limit word_bound t f near (light (mass t.pairs) (length t.pairs) (unsigned_abs t.rest) (mass-bound 1000000001 t.pairs (small-below t.pairs h.small.0)) h.short h.small.1)

pub claim_fits : (ranges : List (ℕ × ℕ)) (c : Claim) (f : ℕ → ℤ) → EachTerm (IsTermOver ranges) c → AreNear word_bound f → ClaimFits c f
claim_fits ranges True f h near = tt
claim_fits ranges False f h near = tt
claim_fits ranges (Le t) f h near = term_fits t f h near
claim_fits ranges (Eq t) f h near = term_fits t f h near
claim_fits ranges (Ne t) f h near = term_fits t f h near
claim_fits ranges (And a b) f h near = (claim_fits ranges a f h.0 near, claim_fits ranges b f h.1 near)
claim_fits ranges (Or a b) f h near = (claim_fits ranges a f h.0 near, claim_fits ranges b f h.1 near)
claim_fits ranges (Not a) f h near = claim_fits ranges a f h near

pub amounts_fit : (kinds : List CellKind) (ranges : List (ℕ × ℕ)) (parts : List Part) (f : ℕ → ℤ) → AllByRecursion (IsPartOver kinds ranges) parts → AreNear word_bound f → AmountsFit f parts
amounts_fit kinds ranges [] f h near = tt
amounts_fit kinds ranges (p ∷ ps) f h near = (term_fits p.amount f h.0.1 near, amounts_fit kinds ranges ps f h.1 near)

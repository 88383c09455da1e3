-- Elimination of variables from a list of rows.
use Rattle.std.specs.Prelude.{ℕ, zero, suc, ◌/◌, ◌≡◌, ◌⊎◌, Bool, true, false, List, [], ◌∷◌, ◌++◌, map, flat_map, ℤ, pos, negsuc, neg_ℤ, ◌<ℤ◌, unsigned_abs, ◌==◌, nat_lt, if◌then◌else◌}
use Rattle.std.specs.List.{filter}
use Rattle.carol_formula.specs.Linear.{Linear, coefficient_of, is_zero, scaled, sum_of}
use Rattle.carol_elimination.specs.Tightened.{divisor, tightened}

-- ---- lists of rows

-- the row stands in the list
abbrev pub Among : Linear → List Linear → Type 0
Among r [] = ⊥
Among r (s ∷ rows) = (r ≡ s) ⊎ Among r rows

-- the coefficient of the variable in the row
abbrev pub factor_of : ℕ → Linear → ℤ
factor_of x r = coefficient_of x r.pairs

-- ---- two rows

-- z is above 0
abbrev pub is_positive : ℤ → Bool
is_positive (pos zero) = false
is_positive (pos (suc n)) = true
is_positive (negsuc n) = false

-- the row bounds the variable above, or below
abbrev pub is_upper : ℕ → Linear → Bool
is_upper x r = is_positive (factor_of x r)

abbrev pub is_lower : ℕ → Linear → Bool
is_lower x r = is_positive (neg_ℤ (factor_of x r))

-- how often a row is taken, so that a variable with this coefficient cancels one with the other
abbrev pub multiplier : ℤ → ℤ → ℤ
multiplier own other = pos (unsigned_abs other / divisor (unsigned_abs own) (unsigned_abs other))

-- the least positive multiples of a row that bounds the variable above and of one that bounds it below,
-- such that their sum has no such variable
abbrev pub upper_part : ℕ → Linear → Linear → Linear
upper_part x u l = scaled (multiplier (factor_of x u) (factor_of x l)) u

abbrev pub lower_part : ℕ → Linear → Linear → Linear
lower_part x u l = scaled (multiplier (factor_of x l) (factor_of x u)) l

-- their least positive combination that cancels the variable
abbrev pub least : ℕ → Linear → Linear → Linear
least x u l = sum_of (upper_part x u l) (lower_part x u l)

-- ---- stages

abbrev pub without : ℕ → List Linear → List Linear
without x rows = filter (λ r. is_zero (factor_of x r)) rows

abbrev pub uppers : ℕ → List Linear → List Linear
uppers x rows = filter (is_upper x) rows

abbrev pub lowers : ℕ → List Linear → List Linear
lowers x rows = filter (is_lower x) rows

-- the combinations of an upper row with each lower row
abbrev pub combinations : ℕ → List Linear → Linear → List Linear
combinations x below u = map (λ l. tightened (least x u l)) below

-- the rows without the variable, and the least combination of each pair of rows that bound it above and
-- below
abbrev pub next : ℕ → List Linear → List Linear
next x rows = without x rows ++ flat_map (combinations x (lowers x rows)) (uppers x rows)

-- the rows after the variables are eliminated, one after another
abbrev pub eliminated : List ℕ → List Linear → List Linear
eliminated [] rows = rows
eliminated (x ∷ xs) rows = eliminated xs (next x rows)

-- ---- all variables of a list

-- one number more in an ascending list
abbrev pub with_variable : ℕ → List ℕ → List ℕ
with_variable v [] = v ∷ []
with_variable v (w ∷ ws) = if nat_lt v w then (v ∷ w ∷ ws) else if v == w then (w ∷ ws) else (w ∷ with_variable v ws)

abbrev pub with_pairs : List (ℕ × ℤ) → List ℕ → List ℕ
with_pairs [] vs = vs
with_pairs (p ∷ ps) vs = with_variable p.0 (with_pairs ps vs)

-- the variables of the rows, ascending
abbrev pub variables : List Linear → List ℕ
variables [] = []
variables (r ∷ rows) = with_pairs r.pairs (variables rows)

-- the first stage
abbrev pub first_stage : List Linear → List Linear
first_stage rows = map tightened rows

-- ---- quiet lists

-- a row without variables whose constant makes it false
pub record IsAbsurdRow (r : Linear) : Type 0 where
  pub no_variable : r.pairs ≡ []
  pub positive : pos 0 <ℤ r.rest

abbrev pub HasNoAbsurd : List Linear → Type 0
HasNoAbsurd rows = (r : Linear) → Among r rows → ¬ IsAbsurdRow r

-- eliminating all variables makes no absurd row
abbrev pub IsQuiet : List Linear → Type 0
IsQuiet rows = HasNoAbsurd (eliminated (variables rows) (first_stage rows))

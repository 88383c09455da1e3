-- The variables of a program's formulas and terms: their numbers, which of them a place may use, and their numbers'
-- values in stores and arguments.
use Rattle.std.specs.Prelude.{ℕ, ◌+◌, ◌-◌, ◌*◌, ◌<◌, ◌≤◌, ◌⊎◌, nat_lt, if◌then◌else◌, List, [], ◌∷◌, length, map, ℤ, pos, get_or}
use Rattle.carol_store.specs.declared.shape.CellKind.{CellKind}
use Rattle.carol_store.specs.Kinds.{CellValue, number_of, value_of}

-- how many variables there are for the cells of each store
abbrev pub store_variables : ℕ
store_variables = 16

-- a cell of the store itself, or of the store that was read
abbrev pub cell_variable : ℕ → ℕ
cell_variable cell = cell

-- a cell of the global store, in a guard
abbrev pub there_variable : ℕ → ℕ
there_variable cell = store_variables + cell

abbrev pub param_variable : ℕ → ℕ
param_variable param = 32 + param

abbrev pub result_variable : ℕ
result_variable = 48

-- a cell of the store that the query in this slot took
abbrev pub query_variable : ℕ → ℕ → ℕ
query_variable slot cell = 64 + store_variables * slot + cell

-- ---- which of them a place may use: ranges, each as its first variable and how many there are

abbrev pub IsAmong : List (ℕ × ℕ) → ℕ → Type 0
IsAmong [] v = ⊥
IsAmong (r ∷ rs) v = ((r.0 ≤ v) × (v < r.0 + r.1)) ⊎ IsAmong rs v

abbrev pub AreAmong : List (ℕ × ℕ) → List (ℕ × ℤ) → Type 0
AreAmong ranges [] = Unit {0}
AreAmong ranges (p ∷ ps) = IsAmong ranges p.0 × AreAmong ranges ps

-- the invariant, over cells of these kinds
abbrev pub invariant_variables : List CellKind → List (ℕ × ℕ)
invariant_variables kinds = (cell_variable 0, length kinds) ∷ []

abbrev pub guard_variables : List CellKind → List (ℕ × ℕ)
guard_variables kinds = (cell_variable 0, length kinds) ∷ (there_variable 0, length kinds) ∷ []

-- the refinement of a parameter, which has this many up to itself, and whatever speaks of parameters alone
abbrev pub param_variables : ℕ → List (ℕ × ℕ)
param_variables params = (param_variable 0, params) ∷ []

-- the refinement of the result
abbrev pub outcome_variables : ℕ → List (ℕ × ℕ)
outcome_variables params = (param_variable 0, params) ∷ (result_variable, 1) ∷ []

-- a place of a body behind the queries in these slots
abbrev pub body_variables : List CellKind → ℕ → List ℕ → List (ℕ × ℕ)
body_variables kinds params slots = (param_variable 0, params) ∷ map (λ slot. (query_variable slot 0, length kinds)) slots

-- ---- values

-- the number in the cell, or 0 where the store has no such cell
abbrev pub number_in : List CellValue → ℕ → ℤ
number_in store v = number_of (get_or store v (pos 0))

-- the store of such cells whose variables begin with this one
abbrev pub store_at : List CellKind → ℕ → (ℕ → ℤ) → List CellValue
store_at [] base f = []
store_at (kind ∷ kinds) base f = value_of kind (f base) ∷ store_at kinds (base + 1) f

-- `here` from the first store and `there` from the second
abbrev pub number_in_two : List CellValue → List CellValue → ℕ → ℤ
number_in_two here there v = if nat_lt v 16 then number_in here v else number_in there (v - 16)

-- a parameter's variable has its argument
abbrev pub number_of_args : List ℤ → ℕ → ℤ
number_of_args args v = if nat_lt v 32 then pos 0 else get_or args (v - 32) (pos 0)

-- The numbers of an operation's variables, looked up one by one.
use Rattle.std.proofs.Common.{ℕ, ◌≡◌, List, [], ◌∷◌, length, arith, refl}
use Rattle.std.specs.Prelude.{ℤ}
use Rattle.carol_store.specs.Kinds.{CellValue}
use Rattle.carol_program.specs.Variables.{query_variable}
use Rattle.carol_reading.specs.Readings.{number_or, with_query, with_queries}

-- the number of a variable, where it has this one without the queries
abbrev pub number_through : List ℕ → List (List CellValue) → ℤ → ℕ → ℤ
number_through [] stores number v = number
number_through (slot ∷ slots) [] number v = number
number_through (slot ∷ slots) (store ∷ stores) number v = number_through slots stores (number_or (query_variable slot 0) store number v) v

pub with_queries-at : (slots : List ℕ) (stores : List (List CellValue)) (f : ℕ → ℤ) (v : ℕ) → with_queries slots stores f v ≡ number_through slots stores (f v) v
with_queries-at [] stores f v = refl
with_queries-at (slot ∷ slots) [] f v = refl
with_queries-at (slot ∷ slots) (store ∷ stores) f v = with_queries-at slots stores (with_query slot store f) v

-- the number when no slot or no store is left
pub through_slots : (slots : List ℕ) (stores : List (List CellValue)) (number : ℤ) (v : ℕ) → length slots ≡ 0 → number_through slots stores number v ≡ number
through_slots [] stores number v e = refl
through_slots (slot ∷ slots) stores number v e = absurd (omega arith)

pub through_stores : (slots : List ℕ) (stores : List (List CellValue)) (number : ℤ) (v : ℕ) → length stores ≡ 0 → number_through slots stores number v ≡ number
through_stores [] stores number v e = refl
through_stores (slot ∷ slots) [] number v e = refl
through_stores (slot ∷ slots) (store ∷ stores) number v e = absurd (omega arith)

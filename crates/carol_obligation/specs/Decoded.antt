-- The reading that numbers for the variables stand for at a place: its arguments, its marks, and the
-- stores of its rounds.
use Rattle.std.specs.Prelude.{◌≡◌, ℕ, zero, suc, ◌+◌, ◌*◌, if◌then◌else◌, List, [], ◌∷◌, ◌++◌, ℤ}
use Rattle.carol_store.specs.declared.shape.CellKind.{CellKind}
use Rattle.carol_store.specs.Kinds.{CellValue}
use Rattle.carol_formula.specs.Claim.{truth}
use Rattle.carol_program.specs.Variables.{param_variable, query_variable, store_at, store_variables}
use Rattle.carol_reading.specs.Marks.{Mark, Asked, Issued, Released}
use Rattle.carol_reading.specs.Readings.{effect_of}
use Rattle.carol_obligation.specs.Ways.{Way, Asks, Puts, Frees, Tests, rounds_of, has_query}

-- a cell of the store of a round, the first of which is 0
abbrev pub round_variable : ℕ → ℕ → ℕ
round_variable round cell = 192 + store_variables * round + cell

-- this many arguments, from the parameter with this number on
abbrev pub args_from : ℕ → ℕ → (ℕ → ℤ) → List ℤ
args_from param zero f = []
args_from param (suc more) f = f (param_variable param) ∷ args_from (param + 1) more f

abbrev pub args_at : ℕ → (ℕ → ℤ) → List ℤ
args_at params f = args_from 0 params f

-- the marks that lie on the way
abbrev pub marks_at : List CellKind → Way → (ℕ → ℤ) → List Mark
marks_at kinds [] f = []
marks_at kinds (Asks guard slot ∷ way) f =
    marks_at kinds way f ++ Asked guard (store_at kinds (query_variable slot 0) f) ∷ []
marks_at kinds (Puts parts ∷ way) f = marks_at kinds way f ++ Issued (effect_of kinds parts f) ∷ []
marks_at kinds (Frees ∷ way) f = marks_at kinds way f ++ Released ∷ []
marks_at kinds (Tests test side ∷ way) f = marks_at kinds way f

-- the store of the round that is open at the end of the way
abbrev pub open_at : List CellKind → Way → (ℕ → ℤ) → List CellValue
open_at kinds way f = store_at kinds (round_variable (rounds_of way) 0) f

-- the store of a round that is over at the end of the way; one without a query may have any, and has
-- the store of the round that is open at the place
abbrev pub closed_at : List CellKind → Way → (ℕ → ℤ) → List CellValue → List CellValue
closed_at kinds way f current = if has_query way then open_at kinds way f else current

-- the stores of all rounds that are over
abbrev pub ended_at : List CellKind → Way → (ℕ → ℤ) → List CellValue → List (List CellValue)
ended_at kinds [] f current = []
ended_at kinds (Asks guard slot ∷ way) f current = ended_at kinds way f current
ended_at kinds (Puts parts ∷ way) f current = ended_at kinds way f current ++ closed_at kinds way f current ∷ []
ended_at kinds (Frees ∷ way) f current = ended_at kinds way f current ++ closed_at kinds way f current ∷ []
ended_at kinds (Tests test side ∷ way) f current = ended_at kinds way f current

-- each test on the way comes out as the way says
abbrev pub TestsGo : Way → (ℕ → ℤ) → Type 0
TestsGo [] f = Unit {0}
TestsGo (Asks guard slot ∷ way) f = TestsGo way f
TestsGo (Puts parts ∷ way) f = TestsGo way f
TestsGo (Frees ∷ way) f = TestsGo way f
TestsGo (Tests test side ∷ way) f = (truth test f ≡ side) × TestsGo way f

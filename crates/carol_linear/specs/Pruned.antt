-- Steps without those that the last one doesn't need.
use Rattle.std.specs.Prelude.{ℕ, ◌≡◌, ◌+◌, ◌<◌, ◌≤◌, Bool, true, false, List, ◌∷◌, ◌++◌, [], length, Some, slice_get, slice_index_or, map, unwrap_or, if◌then◌else◌}
use Rattle.carol_formula.specs.Linear.{Linear}
use Rattle.carol_formula.specs.Claim.{Claim, Le}
use Rattle.carol_cert.specs.Steps.{Closes}
use Rattle.carol_cert.specs.declared.step.RowStep.{RowStep}
use Rattle.carol_cert.specs.declared.step.RowStep.TheVariants.{Given, Reversed, Combine, Tighten}
use Rattle.carol_linear.specs.Names.{AreNamed}

-- ---- which steps are needed

-- row k is marked
abbrev pub mark_at : List Bool → ℕ → Bool
mark_at marks k = slice_index_or marks k false

-- each row before row k of which the step makes its own is marked
abbrev pub MarksParts : List Bool → ℕ → RowStep → Type 0
MarksParts marks k (Given at) = Unit {0}
MarksParts marks k (Reversed at) = Unit {0}
MarksParts marks k (Combine a m b n) = (a < k → mark_at marks a ≡ true) × (b < k → mark_at marks b ≡ true)
MarksParts marks k (Tighten a d) = a < k → mark_at marks a ≡ true

-- of each marked row from row `low` on, its parts are marked
abbrev pub MarksFrom : ℕ → List Bool → List RowStep → Type 0
MarksFrom low marks steps = (k : ℕ) (step : RowStep) → low ≤ k → slice_get steps k ≡ Some step → mark_at marks k ≡ true → MarksParts marks k step

-- the last row is marked, and with each row its parts
pub record IsMarked (marks : List Bool) (steps : List RowStep) : Type 0 where
  pub as_many : length marks ≡ length steps
  pub last : (k : ℕ) → k + 1 ≡ length steps → mark_at marks k ≡ true
  pub parts : MarksFrom 0 marks steps

-- ---- the steps that are needed

-- the new number of a row
abbrev pub place_of : List ℕ → ℕ → ℕ
place_of places a = unwrap_or (slice_get places a) a

-- the step over claims in place of rows, with the new numbers of the rows that it is made of
abbrev pub renumbered : List RowStep → List ℕ → RowStep → RowStep
renumbered names places (Given at) = unwrap_or (slice_get names at) (Given at)
renumbered names places (Reversed at) = Reversed at
renumbered names places (Combine a m b n) = Combine (place_of places a) m (place_of places b) n
renumbered names places (Tighten a d) = Tighten (place_of places a) d

-- the steps with one more, if it is needed
abbrev pub with_needed : Bool → RowStep → List RowStep → List RowStep
with_needed needed step steps = if needed then (steps ++ step ∷ []) else steps

-- wherever the steps close the rows, the copy closes the claims that the rows stand for
abbrev pub IsLeaf : List RowStep → List RowStep → List RowStep → Type 0
IsLeaf steps names copy = (claims : List Claim) → (rows : List Linear) → AreNamed claims names rows → Closes (map Le rows) steps → Closes claims copy

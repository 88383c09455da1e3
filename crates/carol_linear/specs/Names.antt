-- Rows that stand for claims, each named by the step that takes it.
use Rattle.std.specs.Prelude.{◌≡◌, List, [], ◌∷◌}
use Rattle.carol_formula.specs.Linear.{Linear}
use Rattle.carol_formula.specs.Claim.{Claim}
use Rattle.carol_cert.specs.PlainRow.{row_of}
use Rattle.carol_cert.specs.Steps.{made, IsAllowed}
use Rattle.carol_cert.specs.declared.step.RowStep.{RowStep}
use Rattle.carol_cert.specs.declared.step.RowStep.TheVariants.{Given, Reversed, Combine, Tighten}

-- the step takes a claim, or an `Eq` with its sign turned, and makes the row of it
abbrev pub IsNamed : List Claim → RowStep → Linear → Type 0
IsNamed claims (Given at) row = IsAllowed claims [] (Given at) × (row_of row ≡ made claims [] (Given at))
IsNamed claims (Reversed at) row = IsAllowed claims [] (Reversed at) × (row_of row ≡ made claims [] (Reversed at))
IsNamed claims (Combine a m b n) row = ⊥
IsNamed claims (Tighten a d) row = ⊥

-- as many names as rows, and each name makes its row of the claims
abbrev pub AreNamed : List Claim → List RowStep → List Linear → Type 0
AreNamed claims [] [] = Unit {0}
AreNamed claims [] (row ∷ rows) = ⊥
AreNamed claims (name ∷ names) [] = ⊥
AreNamed claims (name ∷ names) (row ∷ rows) = IsNamed claims name row × AreNamed claims names rows

-- Lists of claims that are all rows, seen through their rows.
use Rattle.std.specs.Prelude.{ℕ, ◌≡◌, ◌+◌, List, [], ◌∷◌, ◌++◌, length}
use Rattle.carol_formula.specs.Linear.{Linear}
use Rattle.carol_formula.specs.Claim.{Claim, Le}
use Rattle.carol_cert.specs.declared.step.RowStep.{RowStep}
use Rattle.carol_cert.specs.declared.step.RowStep.TheVariants.{Given}
use Rattle.carol_elimination.specs.Due.{rows_at, AreRows}
use Rattle.carol_linear.specs.Names.{AreNamed}

-- so many claims have these rows, each with the name that takes it from them
pub record Shows (claims : List Claim) (rows : List Linear) (names : List RowStep) (count : ℕ) : Type 0 where
  pub named : AreNamed claims names rows
  pub plain : AreRows claims
  pub same : rows_at claims ≡ rows
  pub counted : length claims ≡ count

-- the claims with rows more
abbrev pub with_rows : List Claim → List Linear → List Claim
with_rows claims [] = claims
with_rows claims (r ∷ rows) = with_rows (claims ++ Le r ∷ []) rows

-- the names of rows that are claims themselves, the first of them claim `at`
abbrev pub names_from : ℕ → List Linear → List RowStep
names_from at [] = []
names_from at (r ∷ rows) = Given at ∷ names_from (at + 1) rows

-- Places of an operation, and what is kept of the meanings of names.
use Rattle.std.specs.Prelude.{ℕ, ◌≡◌, ◌≤◌, Bool, List, [], ◌∷◌, ◌++◌, IfSome}
use Rattle.carol_syntax.specs.declared.cells.CellDecl.{CellDecl}
use Rattle.carol_syntax.specs.Size.{most_items}
use Rattle.carol_meaning.specs.declared.meaning.Meaning.{Meaning}
use Rattle.carol_meaning.specs.declared.meaning.Meaning.TheVariants.{Parameter, Queried, Bound, Elsewhere}
use Rattle.carol_meaning.specs.Scopes.{Scope}
use Rattle.carol_names.specs.Numbered.{most_numbers}
use Rattle.carol_names.specs.Bounded.{IsBounded, most_value}

-- a place of an operation: the cells, whether `result` may stand there, and what names stand for
pub record Spot : Type 0 where
  pub cells : List CellDecl
  pub outcome : Bool
  pub scope : Scope

-- numbers are small, and terms no larger than a value
abbrev pub IsSafe : Meaning → Type 0
IsSafe (Parameter number) = number ≤ most_numbers
IsSafe (Queried slot) = slot ≤ most_items
IsSafe (Bound term) = IfSome term (IsBounded most_value)
IsSafe Elsewhere = Unit {0}

abbrev pub AreSafe : List (List ℕ × Meaning) → Type 0
AreSafe [] = Unit {0}
AreSafe (entry ∷ more) = IsSafe entry.1 × AreSafe more

-- a scope that has names of the other, in their order, and more behind them
pub record Extends (less wider : Scope) : Type 0 where
  pub more : Scope
  pub is : wider ≡ less ++ more

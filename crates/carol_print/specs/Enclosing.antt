-- The parentheses round a formula, where it stands in them.
use Rattle.std.specs.Prelude.{ℕ, Bool, true, false, List, [], codes}

-- what stands before it
abbrev pub opened : Bool → List ℕ
opened true = codes "("
opened false = []

-- what stands behind it
abbrev pub closed : Bool → List ℕ
closed true = codes ")"
closed false = []

-- The list that a chain of numbers on the stack stands for.
use Rattle.std.specs.Prelude.{List, [], ◌∷◌, ◌++◌, ℤ}
use Rattle.carol_formula.specs.Bounds.{IsBelow, value_limit}
use Rattle.carol_cert.specs.declared.column.Numbers.{Numbers, Nil, More'}

abbrev pub numbers_of : Numbers → List ℤ
numbers_of Nil = []
numbers_of (More' z p before) = numbers_of before ++ z ∷ []

-- each number is below 2 ^ 126
abbrev pub AreSmall : Numbers → Type 0
AreSmall Nil = Unit {0}
AreSmall (More' z p before) = IsBelow value_limit z × AreSmall before

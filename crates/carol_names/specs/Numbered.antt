-- The numbers of what is declared.
use Rattle.std.specs.Prelude.{ℕ, ◌+◌, ◌≤◌, ◌^◌}
use Rattle.carol_meaning.specs.declared.named.Named.{Named}
use Rattle.carol_meaning.specs.declared.named.Named.TheVariants.{Cell, Members, Missing, Misused}

-- how many cells, guards or parameters are numbered at the most
abbrev pub most_numbers : ℕ
most_numbers = 2 ^ 28

-- what a path names has such a number
abbrev pub IsNumbered : Named → Type 0
IsNumbered (Cell number kind) = number ≤ most_numbers
IsNumbered (Members first count) = first + count ≤ most_numbers
IsNumbered Missing = Unit {0}
IsNumbered Misused = Unit {0}

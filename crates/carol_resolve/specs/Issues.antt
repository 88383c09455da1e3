-- The cells that an issue has changed.
use Rattle.std.specs.Prelude.{◌≡◌, ℕ, List}
use Rattle.carol_meaning.specs.Bodies.{has_number}

-- the same numbers are in both lists, in whatever order and how often
abbrev pub HasSame : List ℕ → List ℕ → Type 0
HasSame xs ys = (n : ℕ) → has_number n xs ≡ has_number n ys

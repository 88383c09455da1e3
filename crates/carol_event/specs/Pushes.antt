-- What appending to a line leaves.
use Rattle.std.specs.Prelude.{◌≡◌, ℕ, List, ◌++◌, codes, flat_map, Result, Ok, Err}
use Rattle.std.specs.Fmt.{decimal}

-- what stood there stays in front; the text stands behind it, if nothing failed
abbrev pub Appends : {T E : Type 0} → Result T E → List ℕ → List ℕ → List ℕ → Type 0
Appends (Ok done) old text new = new ≡ old ++ text
Appends (Err error) old text new = (more : List ℕ) × (new ≡ old ++ more)

-- numbers, one space before each
abbrev pub numbers_text : List ℕ → List ℕ
numbers_text numbers = flat_map (λ number. codes " " ++ decimal number) numbers

-- What the answer of reading a text says of it.
use Rattle.std.specs.Prelude.{◌≡◌, List, ℕ, Option, Some, None, Result, Ok, Err, IfSome}
use Rattle.carol_syntax.specs.declared.files.File.{File}
use Rattle.carol_syntax.specs.Files.{file_tree}
use Rattle.carol_grammar.specs.Outcome.{Outcome, Means}
use Rattle.carol_grammar.specs.Outcome.{Read, Bad, Large}
use Rattle.carol_parse.specs.declared.error.TextError.{TextError}
use Rattle.carol_parse.specs.declared.error.TextError.TheVariants as error

-- want of memory says nothing
abbrev pub said : Result File TextError → Option Outcome
said (Ok file) = Some (Read (file_tree file))
said (Err (error.Bad line column)) = Some (Bad line column)
said (Err (error.TooLarge limit)) = Some (Large limit)
said (Err error.NoMemory) = None

-- the answer says this of the text
abbrev pub Says : Result File TextError → Outcome → Type 0
Says result outcome = IfSome (said result) (λ o. o ≡ outcome)

-- what the answer says is what the text means
abbrev pub IsMeant : List ℕ → Result File TextError → Type 0
IsMeant bytes result = IfSome (said result) (λ o. Means bytes o)

-- and it means nothing else
abbrev pub IsOnlyMeant : List ℕ → Result File TextError → Type 0
IsOnlyMeant bytes result = IfSome (said result) (λ o. (other : Outcome) → Means bytes other → other ≡ o)

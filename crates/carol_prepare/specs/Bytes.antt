-- What is told of the bytes of an input: that they are no file, or what is said of the file.
use Rattle.std.specs.Prelude.{◌≡◌, List, ℕ, Option, Some, None}
use Rattle.carol_grammar.specs.Outcome.{Outcome, Read, Bad, Large, Means}
use Rattle.carol_parse.specs.declared.error.TextError.{TextError}
use Rattle.carol_parse.specs.declared.error.TextError.TheVariants as text
use Rattle.carol_reply.specs.declared.line.Line.TheVariants as line
use Rattle.carol_reply.specs.Texts.{Answer, line_answer}
use Rattle.carol_syntax.specs.Files.{FileTree}
use Rattle.carol_syntax.specs.Shape.{IsFile}
use Rattle.carol_syntax.specs.Size.{IsSized}

-- the answer to a text that isn't read; want of memory has none
abbrev pub text_answer : TextError → Option Answer
text_answer (text.Bad row column) = Some (line_answer (line.BadText row column))
text_answer (text.TooLarge limit) = Some (line_answer (line.TooLarge limit))
text_answer text.NoMemory = None

-- the answer to what reading the bytes came to, by what is said of a file
abbrev pub OutcomeSays : (FileTree → Answer → Type 0) → Outcome → Answer → Type 0
OutcomeSays said (Read file) answer = said file answer
OutcomeSays said (Bad row column) answer = answer ≡ line_answer (line.BadText row column)
OutcomeSays said (Large limit) answer = answer ≡ line_answer (line.TooLarge limit)

-- the answer to the bytes, by what is said of a file
abbrev pub BytesSay : (FileTree → Answer → Type 0) → List ℕ → Answer → Type 0
BytesSay said bytes answer =
    (outcome : Outcome) × Means bytes outcome × OutcomeSays said outcome answer

-- a file as the grammar and its limits have it
pub record IsSound (file : FileTree) : Type 0 where
  pub shape : IsFile file
  pub size : IsSized file

-- Up to where a text is read, and what that tells.
use Rattle.std.specs.Prelude.{◌≡◌, ℕ, ◌<◌, ◌≤◌, if◌then◌else◌, List, [], ◌∷◌, ◌++◌, length, take, drop, reverse, Option, Some, None, MatchOption}
use Rattle.carol_grammar.specs.Reading.{Reading}
use Rattle.carol_grammar.specs.Reading.Reading.{got, stuck}
use Rattle.carol_syntax.specs.Files.{FileTree}
use Rattle.carol_syntax.specs.declared.lexeme.Lexeme.{Lexeme}
use Rattle.carol_syntax.specs.declared.lexeme.Lexemes.{Lexemes}
use Rattle.carol_syntax.specs.declared.place.Place.{Place}
use Rattle.carol_grammar.specs.declared.limit.TextLimit.{TextLimit}
use Rattle.carol_grammar.specs.declared.limit.Passed.{Passed}
use Rattle.carol_grammar.specs.declared.reading.Reach.{Reach}
use Rattle.carol_grammar.specs.declared.reading.Met.{Met}
use Rattle.carol_grammar.specs.Limits.{IsPast, IsFirst, GoesPast, PassesAt, ComesFirst, IsOver, most, counted, rank}
use Rattle.carol_grammar.specs.Outcome.{Outcome, is_broken}
use Rattle.carol_grammar.specs.Outcome.Outcome.{Read, Bad, Large}

-- no token of these, the latest first, is over a limit
abbrev pub NoneIsOver : List Lexeme → Type 0
NoneIsOver [] = Unit {0}
NoneIsOver (t ∷ before) = ((limit : TextLimit) → counted limit (t ∷ before) ≤ most limit) × NoneIsOver before

-- the token with this number is the first that is over a limit, and the limit the first in the
-- order that it is over
pub record IsFirstOver (list : List Lexeme) (passed : Passed) : Type 0 where
  pub before : List Lexeme
  pub token : Lexeme
  pub more : List Lexeme
  pub split : list ≡ reverse before ++ token ∷ more
  pub number : length before ≡ passed.index
  pub over : IsOver passed.limit (token ∷ before)
  pub lowest : (limit : TextLimit) → IsOver limit (token ∷ before) → rank passed.limit ≤ rank limit
  pub none : NoneIsOver before

-- no token is over a limit
abbrev pub NoTokenPasses : List Lexeme → Type 0
NoTokenPasses list = (l : TextLimit) (o : ℕ) → PassesAt l list o → ⊥

-- the first place where a token is over a limit
pub record IsFirstMet (list : List Lexeme) (met : Met) : Type 0 where
  pub past : PassesAt met.limit list met.at
  pub first : (l : TextLimit) (o : ℕ) → PassesAt l list o → ComesFirst met.limit met.at l o

-- the program part is finished where its bytes are used up, or before
abbrev pub NoByteIsPast : List ℕ → List Lexeme → Type 0
NoByteIsPast bytes list = (o : ℕ) → GoesPast bytes list o → ⊥

abbrev pub NonePast : List ℕ → List Lexeme → Type 0
NonePast bytes list = (l : TextLimit) (o : ℕ) → IsPast l bytes list o → ⊥

-- the tokens begin at or before the offset
abbrev pub BeginBy : ℕ → List Lexeme → Type 0
BeginBy at [] = Unit {0}
BeginBy at (t ∷ more) = (t.from ≤ at) × BeginBy at more

-- the tokens begin behind the offset
abbrev pub BeginBehind : ℕ → List Lexeme → Type 0
BeginBehind at [] = Unit {0}
BeginBehind at (t ∷ more) = (at < t.from) × BeginBehind at more

-- so many tokens begin at or before the offset, and the others behind it
pub record IsSplit (at : ℕ) (list : List Lexeme) (count : ℕ) : Type 0 where
  pub up_to : BeginBy at (take count list)
  pub beyond : BeginBehind at (drop count list)

-- all tokens are to be read, and no limit is passed before the end
pub record ReachesEnd (bytes : List ℕ) (parts : Lexemes) (count : ℕ) : Type 0 where
  pub all : count ≡ length parts.list
  pub small : (l : TextLimit) (o : ℕ) → IsPast l bytes parts.list o → parts.end.offset ≤ o

-- the limit is the first that is passed, before the end, and so many tokens begin up to there
pub record ReachesLimit (bytes : List ℕ) (parts : Lexemes) (count : ℕ) (limit : TextLimit) : Type 0 where
  pub at : ℕ
  pub first : IsFirst bytes parts.list limit at
  pub inner : at < parts.end.offset
  pub tokens : IsSplit at parts.list count

abbrev pub Reaches : List ℕ → Lexemes → Reach → Type 0
Reaches bytes parts reach = MatchOption reach.limit (ReachesEnd bytes parts reach.count) (ReachesLimit bytes parts reach.count)

abbrev pub bad_at : Place → Outcome
bad_at at = Bad at.line at.column

abbrev pub unless_large : Option TextLimit → Outcome → Outcome
unless_large None outcome = outcome
unless_large (Some limit) outcome = Large limit

-- what reading the tokens that are to be read tells of the text
abbrev pub told : Lexemes → Option TextLimit → Reading Lexeme FileTree → Outcome
told parts limit (stuck (t ∷ more)) = Bad t.span.line t.span.column
told parts limit (stuck []) = unless_large limit (bad_at parts.end)
told parts limit (got f rest) = unless_large limit (if is_broken parts.stop then bad_at parts.end else Read f)

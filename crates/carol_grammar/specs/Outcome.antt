-- What reading a text answers: its tree, the place of what is bad, or the limit that it passes.
use Rattle.std.specs.Prelude.{◌≡◌, ℕ, ◌<◌, ◌≤◌, Bool, true, false, ◌⊎◌, List, ◌∷◌}
use Rattle.carol_grammar.specs.Sentence.{Begins}
use Rattle.carol_grammar.specs.Found.{IsFault}
use Rattle.carol_syntax.specs.Files.{FileTree}
use Rattle.carol_syntax.specs.declared.lexeme.Lexeme.{Lexeme}
use Rattle.carol_syntax.specs.declared.lexeme.Lexemes.{Lexemes}
use Rattle.carol_syntax.specs.declared.lexeme.Stop.{Stop}
use Rattle.carol_syntax.specs.declared.lexeme.Stop.TheVariants as stop_of
use Rattle.carol_syntax.specs.declared.place.Place.{Place}
use Rattle.carol_syntax.specs.Place.{start}
use Rattle.carol_syntax.specs.Cut.{Cut}
use Rattle.carol_grammar.specs.Rules.{carol, file, IsFileOf}
use Rattle.carol_grammar.specs.declared.limit.TextLimit.{TextLimit}
use Rattle.carol_grammar.specs.Limits.{IsPast, IsFirst}

pub data Outcome : Type 0 where
  Read : FileTree → Outcome
  Bad : (line column : ℕ) → Outcome
  Large : TextLimit → Outcome

-- the bytes are cut into these parts
abbrev pub AreParts : List ℕ → Lexemes → Type 0
AreParts bytes parts = Cut start bytes parts.list parts.stop parts.end

-- where the bytes behind a transcript's first line begin
abbrev pub tail_of : Stop → ℕ
tail_of (stop_of.Tail n) = n
tail_of _ = 0

-- cutting stopped at what is no token
abbrev pub is_broken : Stop → Bool
is_broken (stop_of.Bad span) = true
is_broken _ = false

-- the tokens are a file with this tree
abbrev pub IsFileIn : List ℕ → Lexemes → FileTree → Type 0
IsFileIn bytes parts f = IsFileOf bytes (tail_of parts.stop) parts.list f

-- the whole text is a file with this tree, whatever its limits
pub record IsTextIn (bytes : List ℕ) (parts : Lexemes) (f : FileTree) : Type 0 where
  pub whole : is_broken parts.stop ≡ false
  pub file : IsFileIn bytes parts f

abbrev pub place_of : Lexeme → Place
place_of t = record { line = t.span.line; column = t.span.column; offset = t.from }

-- the tokens before this one begin a file, and no file goes on with it
pub record IsBadToken (bytes : List ℕ) (parts : Lexemes) (at : Place) : Type 0 where
  pub token : Lexeme
  pub more : List Lexeme
  pub fault : IsFault (carol bytes) (file bytes (tail_of parts.stop)) parts.list (token ∷ more)
  pub place : at ≡ place_of token

-- the tokens begin a file, and what is no token stands behind them, or they are none
pub record IsBadEnd (bytes : List ℕ) (parts : Lexemes) (at : Place) : Type 0 where
  pub begun : Begins (carol bytes) (file bytes (tail_of parts.stop)) parts.list
  pub none : (is_broken parts.stop ≡ true) ⊎ ((f : FileTree) → IsFileIn bytes parts f → ⊥)
  pub place : at ≡ parts.end

-- here stands the first token, or the first byte that begins none, with which no file goes on, or
-- here the text ends and is none
abbrev pub IsBadIn : List ℕ → Lexemes → Place → Type 0
IsBadIn bytes parts at = IsBadToken bytes parts at ⊎ IsBadEnd bytes parts at

-- the text is a file and passes no limit
pub record IsRead (bytes : List ℕ) (parts : Lexemes) (f : FileTree) : Type 0 where
  pub text : IsTextIn bytes parts f
  pub small : (l : TextLimit) (o : ℕ) → IsPast l bytes parts.list o → ⊥

-- what is bad stands at this line and column, and no limit is passed before it
pub record IsBad (bytes : List ℕ) (parts : Lexemes) (line column : ℕ) : Type 0 where
  pub at : Place
  pub bad : IsBadIn bytes parts at
  pub same_line : at.line ≡ line
  pub same_column : at.column ≡ column
  pub small : (l : TextLimit) (o : ℕ) → IsPast l bytes parts.list o → at.offset ≤ o

-- the limit is the first that is passed, and nothing is bad up to there
pub record IsLarge (bytes : List ℕ) (parts : Lexemes) (limit : TextLimit) : Type 0 where
  pub at : ℕ
  pub first : IsFirst bytes parts.list limit at
  pub good : (place : Place) → IsBadIn bytes parts place → at < place.offset

abbrev pub MeansIn : List ℕ → Lexemes → Outcome → Type 0
MeansIn bytes parts (Read f) = IsRead bytes parts f
MeansIn bytes parts (Bad line column) = IsBad bytes parts line column
MeansIn bytes parts (Large limit) = IsLarge bytes parts limit

-- the bytes are a text that is answered so
abbrev pub Means : List ℕ → Outcome → Type 0
Means bytes outcome = (parts : Lexemes) × AreParts bytes parts × MeansIn bytes parts outcome

-- the bytes are a file with this tree, whatever its limits
abbrev pub IsText : List ℕ → FileTree → Type 0
IsText bytes f = (parts : Lexemes) × AreParts bytes parts × IsTextIn bytes parts f

-- the place of the first token, or of the first byte that begins none, with which no file goes on,
-- or of the end of a text that is no file
abbrev pub IsBadAt : List ℕ → Place → Type 0
IsBadAt bytes at = (parts : Lexemes) × AreParts bytes parts × IsBadIn bytes parts at

-- What a text is cut into, from its front: spaces and comments are passed, then the longest token
-- is taken. Behind the word `transcript` a line feed has to come, and what stands behind it is not
-- cut.
use Rattle.std.specs.Prelude.{◌≡◌, ℕ, ◌+◌, ◌<◌, ◌≤◌, Bool, true, false, ◌==◌, if◌then◌else◌, MatchBool, List, [], ◌∷◌, drop, Some, None}
use Rattle.carol_syntax.specs.declared.kind.Kind.{Kind}
use Rattle.carol_syntax.specs.declared.kind.Kind.TheVariants.{Transcript}
use Rattle.carol_syntax.specs.declared.found.Found.{Found}
use Rattle.carol_syntax.specs.declared.lexeme.Lexeme.{Lexeme}
use Rattle.carol_syntax.specs.declared.lexeme.Stop.{Stop}
use Rattle.carol_syntax.specs.declared.lexeme.Stop.TheVariants.{End, Tail, Bad}
use Rattle.carol_syntax.specs.declared.place.Place.{Place}
use Rattle.carol_syntax.specs.Place.{past_space, place_over, span_of}
use Rattle.carol_syntax.specs.First.{first_token}

-- a token that was found at a place
abbrev pub lexeme_at : Place → Found → Lexeme
lexeme_at at found = record { kind = found.kind; value = found.value; span = span_of at; from = at.offset; to = at.offset + found.length }

-- where cutting stops behind the word `transcript`
abbrev pub stop_of_tail : Place → List ℕ → Stop
stop_of_tail at [] = Bad (span_of at)
stop_of_tail at (b ∷ bytes) = if b == 10 then Tail (at.offset + 1) else Bad (span_of at)

-- no token follows
abbrev pub Stops : Place × List ℕ → Stop → Type 0
Stops (at, []) stop = stop ≡ End
Stops (at, b ∷ bytes) stop = (first_token (b ∷ bytes) ≡ None) × (stop ≡ Bad (span_of at))

-- the word `transcript` stands before this place and these bytes
abbrev pub StopsBehind : Place × List ℕ → Stop → Place → Type 0
StopsBehind here stop end = (stop ≡ stop_of_tail here.0 here.1) × (end ≡ here.0)

-- the token is the next one, `found` at its place
pub record IsNext (here : Place × List ℕ) (found : Found) (lexeme : Lexeme) : Type 0 where
  pub first : first_token here.1 ≡ Some found
  pub made : lexeme ≡ lexeme_at here.0 found

abbrev pub is_transcript : Kind → Bool
is_transcript Transcript = true
is_transcript _ = false

-- the lexemes are what is cut from here on, where spaces and comments are passed; why and where
-- cutting stops
abbrev pub CutFrom : Place × List ℕ → List Lexeme → Stop → Place → Type 0
CutFrom here [] stop end = Stops here stop × (end ≡ here.0)
CutFrom here (lexeme ∷ lexemes) stop end =
    (found : Found) × IsNext here found lexeme × MatchBool (is_transcript found.kind)
    ((lexemes ≡ []) × StopsBehind (place_over here.0 found.length, drop found.length here.1) stop end)
    (CutFrom (past_space false (place_over here.0 found.length) (drop found.length here.1)) lexemes stop end)

-- the same of a text that begins at a place
abbrev pub Cut : Place → List ℕ → List Lexeme → Stop → Place → Type 0
Cut at bytes lexemes stop end = CutFrom (past_space false at bytes) lexemes stop end

-- the lexemes have bytes, and stand one behind the other between the offsets
abbrev pub StandBetween : ℕ → List Lexeme → ℕ → Type 0
StandBetween from [] to = from ≤ to
StandBetween from (lexeme ∷ lexemes) to = (from ≤ lexeme.from) × (lexeme.from < lexeme.to) × StandBetween lexeme.to lexemes to

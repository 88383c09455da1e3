-- A text that is cut one token at a time, and what is left of it.
use Rattle.std.specs.Prelude.{◌≡◌, ◌+◌, ◌-◌, ◌<◌, ◌≤◌, ◌^◌, MatchBool, List, [], ◌∷◌, length, None}
use Rattle.carol_syntax.specs.declared.lexeme.Lexeme.{Lexeme}
use Rattle.carol_syntax.specs.declared.lexeme.Stop.{Stop}
use Rattle.carol_syntax.specs.declared.place.Place.{Place}
use Rattle.carol_syntax.specs.declared.cursor.Here.{Here}
use Rattle.carol_syntax.specs.Place.{IsCounted}
use Rattle.carol_syntax.specs.First.{first_token}
use Rattle.carol_syntax.specs.Cut.{CutFrom, StopsBehind}

-- the tokens are what is cut of what is left; why and where cutting stops
abbrev pub CutHere : Here → List Lexeme → Stop → Place → Type 0
CutHere here list stop end =
    MatchBool here.tail ((list ≡ []) × StopsBehind (here.at, here.rest.now) stop end)
    (CutFrom (here.at, here.rest.now) list stop end)

-- the place is counted, and every offset behind it is a number of the machine
pub record IsHere (here : Here) : Type 0 where
  pub counted : IsCounted here.at
  pub room : here.at.offset + length here.rest.now < 2 ^ 32 - 1

-- the token is the next one, and what is left behind it
pub record IsStep (here : Here) (lexeme : Lexeme) (next : Here) : Type 0 where
  pub cut : (more : List Lexeme) (stop : Stop) (end : Place) → CutHere next more stop end → CutHere here (lexeme ∷ more) stop end
  pub sound : IsHere next
  pub from : here.at.offset ≤ lexeme.from
  pub bytes : lexeme.from < lexeme.to
  pub to : lexeme.to ≤ next.at.offset
  pub offset : next.at.offset + length next.rest.now ≡ here.at.offset + length here.rest.now
  pub shorter : length next.rest.now < length here.rest.now

-- no token is left
abbrev pub IsLast : Here → Type 0
IsLast here = MatchBool here.tail (Unit {0}) (first_token here.rest.now ≡ None)

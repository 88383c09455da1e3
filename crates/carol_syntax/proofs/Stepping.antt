-- One token of what is left of a text.
use Rattle.std.proofs.Common.{◌≡◌, ℕ, Bool, true, false, List, [], ◌∷◌, drop, ap, ◌∙◌}
use Rattle.std.specs.Prelude.{Some}
use Rattle.std.specs.Bool.{MatchBool}
use Rattle.carol_syntax.specs.declared.found.Found.{Found}
use Rattle.carol_syntax.specs.declared.lexeme.Lexeme.{Lexeme}
use Rattle.carol_syntax.specs.declared.lexeme.Stop.{Stop}
use Rattle.carol_syntax.specs.declared.place.Place.{Place}
use Rattle.carol_syntax.specs.Place.{past_space, place_over}
use Rattle.carol_syntax.specs.First.{first_token}
use Rattle.carol_syntax.specs.Cut.{CutFrom, StopsBehind, is_transcript, lexeme_at}

-- what is chosen by a test of a known value
pub met : (b : Bool) (A B : Type 0) → b ≡ true → A → MatchBool b A B
met true A B e h = h
met false A B e h = cc e

pub unmet : (b : Bool) (A B : Type 0) → b ≡ false → B → MatchBool b A B
unmet true A B e h = cc e
unmet false A B e h = h

module _ (at over : Place) (rest dropped : List ℕ) (found : Found) (lexeme : Lexeme) (first : first_token rest ≡ Some found) (made : lexeme ≡ lexeme_at at found) (place : over ≡ place_over at found.length) (bytes : dropped ≡ drop found.length rest) where
  -- the word `transcript` stands before what is left
  pub cut_tail : is_transcript found.kind ≡ true → (more : List Lexeme) (stop : Stop) (end : Place) → (more ≡ []) × StopsBehind (over, dropped) stop end → CutFrom (at, rest) (lexeme ∷ more) stop end
  cut_tail tail more stop end h = (found, record { first = first; made = made }, met (is_transcript found.kind) _ _ tail (rw (← place, ← bytes) h))

  module _ (next : Place) (left : List ℕ) (past : (next, left) ≡ past_space false over dropped) (other : is_transcript found.kind ≡ false) where
    past_whole : (next, left) ≡ past_space false (place_over at found.length) (drop found.length rest)
    past_whole = past ∙ ap (λ p. past_space false p dropped) place ∙ ap (λ bs. past_space false (place_over at found.length) bs) bytes

    pub cut_plain : (more : List Lexeme) (stop : Stop) (end : Place) → CutFrom (next, left) more stop end → CutFrom (at, rest) (lexeme ∷ more) stop end
    cut_plain more stop end h = (found, record { first = first; made = made }, unmet (is_transcript found.kind) _ _ other (rw (← past_whole) h))

-- What a reading of a whole list answers.
use Rattle.std.specs.Prelude.{◌≡◌, List, [], ◌∷◌, ◌++◌}
use Rattle.carol_grammar.specs.Rule.{Rule, Grammar}
use Rattle.carol_grammar.specs.Sentence.{IsSentence, Begins}
use Rattle.carol_grammar.specs.Reading.{Reading}
use Rattle.carol_grammar.specs.Reading.Reading.{got, stuck}

-- the tokens are a sentence with this value, and with no other
pub record IsOnly {T V : Type 0} {Value : V → Type 0} {A : Type 0} (g : Grammar T V Value) (r : Rule T V Value A) (ts : List T) (v : A) : Type 0 where
  pub found : IsSentence g r ts v
  pub only : (w : A) → IsSentence g r ts w → w ≡ v

-- no sentence goes on with the next token, or at the end: the tokens are none
abbrev pub NoneGoesOn : {T V : Type 0} {Value : V → Type 0} {A : Type 0} → Grammar T V Value → Rule T V Value A → List T → List T → Type 0
NoneGoesOn g r front [] = (v : _) → IsSentence g r front v → ⊥
NoneGoesOn g r front (t ∷ ts) = (more : List _) (v : _) → IsSentence g r (front ++ t ∷ more) v → ⊥

-- The tokens before the rest begin a sentence, and with the next one no sentence goes on.
pub record IsFault {T V : Type 0} {Value : V → Type 0} {A : Type 0} (g : Grammar T V Value) (r : Rule T V Value A) (ts rest : List T) : Type 0 where
  pub front : List T
  pub split : ts ≡ front ++ rest
  pub begun : Begins g r front
  pub none : NoneGoesOn g r front rest

-- What a reading of the whole list answers: the only value, or the fault.
abbrev pub Answers : {T V : Type 0} {Value : V → Type 0} {A : Type 0} → Grammar T V Value → Rule T V Value A → List T → Reading T A → Type 0
Answers g r ts (got v rest) = (rest ≡ []) × IsOnly g r ts v
Answers g r ts (stuck rest) = IsFault g r ts rest

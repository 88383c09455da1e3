-- The letters of names, and the words that are none.
use Rattle.std.specs.Prelude.{ℕ, Bool, false, ◌&&◌, ◌||◌, ◌==◌, nat_le, List, [], ◌∷◌, codes}
use Rattle.std.specs.List.{list_all, list_any}
use Rattle.std.specs.Str.{bytes_eq}

abbrev pub is_small_letter : ℕ → Bool
is_small_letter b = nat_le 97 b && nat_le b 122

abbrev pub is_digit : ℕ → Bool
is_digit b = nat_le 48 b && nat_le b 57

-- what a word goes on with: small letters, digits and underscores
abbrev pub is_word_byte : ℕ → Bool
is_word_byte b = is_small_letter b || is_digit b || b == 95

-- the words that can't be names; no rule uses the last four
abbrev pub keywords : List (List ℕ)
keywords =
    codes "program" ∷ codes "scene" ∷ codes "script" ∷ codes "transcript" ∷ codes "end" ∷ codes "counter" ∷ codes "peak" ∷
    codes "flag" ∷ codes "set" ∷ codes "record" ∷ codes "invariant" ∷ codes "guard" ∷ codes "op" ∷ codes "gives" ∷
    codes "result" ∷ codes "query" ∷ codes "under" ∷ codes "issue" ∷ codes "raise" ∷ codes "release" ∷ codes "let" ∷
    codes "if" ∷ codes "else" ∷ codes "return" ∷ codes "true" ∷ codes "false" ∷ codes "and" ∷ codes "or" ∷ codes "not" ∷
    codes "size" ∷ codes "here" ∷ codes "there" ∷ codes "replicas" ∷ codes "tries" ∷ codes "workers" ∷ codes "gossipers" ∷
    codes "session" ∷ codes "at" ∷ codes "times" ∷ codes "go" ∷ codes "gossip" ∷ codes "cut" ∷ codes "join" ∷
    codes "shape" ∷ codes "open" ∷ codes "in" ∷ codes "call" ∷ []

abbrev pub is_keyword : List ℕ → Bool
is_keyword word = list_any (bytes_eq word) keywords

-- begins with a small letter and goes on with word bytes
abbrev pub is_word : List ℕ → Bool
is_word [] = false
is_word (b ∷ bytes) = is_small_letter b && list_all is_word_byte bytes

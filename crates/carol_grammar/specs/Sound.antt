-- When a look at the next token decides how to go on.
use Rattle.std.specs.Prelude.{◌≡◌, ℕ, Bool, true, false, cond, not, ◌&&◌, List, [], ◌∷◌, ◌++◌}
use Rattle.carol_grammar.specs.Sets.{has, within, apart}
use Rattle.carol_grammar.specs.Rule.{Rule, Grammar, upper}
use Rattle.carol_grammar.specs.Rule.Rule.{token, both, gives, either, perhaps, many, begins, deeper}
use Rattle.carol_grammar.specs.Reading.{may_be_empty, first}

-- the kinds of a token that may go on after a sentence of the rule, as a part of it
abbrev pub goes_on : {T V : Type 0} {Value : V → Type 0} {A : Type 0} → Grammar T V Value → Rule T V Value A → List ℕ
goes_on g (token ks f) = []
goes_on g (both r s) = goes_on g s ++ cond (may_be_empty s) (goes_on g r) []
goes_on g (gives f r) = goes_on g r
goes_on g (either r s) = goes_on g r ++ goes_on g s
goes_on g (perhaps r) = first g.starts r ++ goes_on g r
goes_on g (many r) = first g.starts r ++ goes_on g r
goes_on g (begins ks r) = goes_on g r
goes_on g (deeper w) = g.goes w

-- some token is of one of the kinds
abbrev pub has_sample : {T : Type 0} → (T → ℕ) → (ℕ → T) → List ℕ → Bool
has_sample kind sample [] = false
has_sample kind sample (k ∷ ks) = has (k ∷ ks) (kind (sample k))

-- one look decides; below says whether the rule may go a level deeper
abbrev pub is_sound : {T V : Type 0} {Value : V → Type 0} {A : Type 0} → Grammar T V Value → Bool → Rule T V Value A → Bool
is_sound g below (token ks f) = has_sample g.kind g.sample ks
is_sound g below (both r s) = is_sound g below r && is_sound g below s && apart (goes_on g r) (first g.starts s)
is_sound g below (gives f r) = is_sound g below r
is_sound g below (either r s) = is_sound g below r && is_sound g below s && not (may_be_empty r) && not (may_be_empty s) && apart (first g.starts r) (first g.starts s)
is_sound g below (perhaps r) = is_sound g below r && not (may_be_empty r)
is_sound g below (many r) = is_sound g below r && not (may_be_empty r) && apart (goes_on g r) (first g.starts r)
is_sound g below (begins ks r) = is_sound g below r && within (first g.starts r) ks
is_sound g below (deeper w) = below

-- nothing goes deeper before a token
abbrev pub is_led : {T V : Type 0} {Value : V → Type 0} {A : Type 0} → Rule T V Value A → Bool
is_led (token ks f) = true
is_led (both r s) = is_led r && cond (may_be_empty r) (is_led s) true
is_led (gives f r) = is_led r
is_led (either r s) = is_led r && is_led s
is_led (perhaps r) = is_led r
is_led (many r) = is_led r
is_led (begins ks r) = is_led r
is_led (deeper w) = false

-- a rule that reaches itself is sound, and begins and goes on as the grammar says
abbrev pub is_sound_at : {T V : Type 0} {Value : V → Type 0} → Grammar T V Value → Bool → (v : V) → Rule T V Value (Value v) → Bool
is_sound_at g below v r = is_sound g below r && not (may_be_empty r) && within (first g.starts r) (g.starts v) && within (goes_on g r) (g.goes v)

pub record IsSound {T V : Type 0} {Value : V → Type 0} (g : Grammar T V Value) : Type 0 where
  pub lowest : (v : V) → is_sound_at g false v (g.lowest v) ≡ true
  pub above : (v : V) → is_sound_at g true v (upper g v) ≡ true
  pub led : (v : V) → is_led (upper g v) ≡ true

-- Which lists of tokens are sentences of a rule, and with which values.
use Rattle.std.specs.Prelude.{◌≡◌, ℕ, zero, suc, true, ◌⊎◌, List, [], ◌∷◌, ◌++◌, Option, Some, None}
use Rattle.carol_grammar.specs.Sets.{has}
use Rattle.carol_grammar.specs.Rule.{Rule, Grammar, upper}
use Rattle.carol_grammar.specs.Rule.Rule.{token, both, gives, either, perhaps, many, begins, deeper}

-- which tokens are sentences, and with which values
abbrev pub Language : Type 0 → Type 0 → Type 1
Language T A = List T → A → Type 0

-- the tokens are sentences, one after another, with these values, and no more than n
abbrev pub Repeats : {T A : Type 0} → ℕ → Language T A → List T → List A → Type 0
Repeats n L ts [] = ts ≡ []
Repeats zero L ts (v ∷ vs) = ⊥
Repeats (suc n) L ts (v ∷ vs) = (x : List _) × (y : List _) × (ts ≡ x ++ y) × L x v × Repeats n L y vs

abbrev pub Perhaps : {T A : Type 0} → Language T A → List T → Option A → Type 0
Perhaps L ts None = ts ≡ []
Perhaps L ts (Some v) = L ts v

-- the sentences of a rule whose repetitions have at most n members, where deep says what stands a
-- level deeper
abbrev pub Sentence : {T V : Type 0} {Value : V → Type 0} {A : Type 0} → (T → ℕ) → ℕ → ((v : V) → Language T (Value v)) → Rule T V Value A → List T → A → Type 0
Sentence kind n deep (token ks f) ts v = (t : _) × (ts ≡ t ∷ []) × (has ks (kind t) ≡ true) × (f t ≡ v)
Sentence kind n deep (both r s) ts v = (x : List _) × (y : List _) × (ts ≡ x ++ y) × Sentence kind n deep r x v.0 × Sentence kind n deep s y v.1
Sentence kind n deep (gives f r) ts v = (w : _) × Sentence kind n deep r ts w × (f w ≡ v)
Sentence kind n deep (either r s) ts v = Sentence kind n deep r ts v ⊎ Sentence kind n deep s ts v
Sentence kind n deep (perhaps r) ts v = Perhaps (Sentence kind n deep r) ts v
Sentence kind n deep (many r) ts v = Repeats n (Sentence kind n deep r) ts v
Sentence kind n deep (begins ks r) ts v = Sentence kind n deep r ts v
Sentence kind n deep (deeper w) ts v = deep w ts v

-- the sentences of a rule that reaches itself, d levels deep
abbrev pub Deep : {T V : Type 0} {Value : V → Type 0} → Grammar T V Value → ℕ → ℕ → (v : V) → Language T (Value v)
Deep g n zero v = Sentence g.kind n (λ w ts x. ⊥) (g.lowest v)
Deep g n (suc d) v = Sentence g.kind n (Deep g n d) (upper g v)

-- The sentences of a rule: of any length and depth.
abbrev pub IsSentence : {T V : Type 0} {Value : V → Type 0} {A : Type 0} → Grammar T V Value → Rule T V Value A → List T → A → Type 0
IsSentence g r ts v = (n : ℕ) × Sentence g.kind n (Deep g n n) r ts v

-- some sentence begins with these tokens
abbrev pub Begins : {T V : Type 0} {Value : V → Type 0} {A : Type 0} → Grammar T V Value → Rule T V Value A → List T → Type 0
Begins g r ts = (more : List _) × (v : _) × IsSentence g r (ts ++ more) v

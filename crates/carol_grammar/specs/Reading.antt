-- Reading a list of tokens by a rule, with a look at the next token alone.
use Rattle.std.specs.Prelude.{ℕ, zero, suc, Bool, true, false, cond, List, [], ◌∷◌, ◌++◌, Some, None}
use Rattle.carol_grammar.specs.Sets.{has}
use Rattle.carol_grammar.specs.Rule.{Rule, Grammar, upper}
use Rattle.carol_grammar.specs.Rule.Rule.{token, both, gives, either, perhaps, many, begins, deeper}

-- What reading a list of tokens gives: a value and the tokens after it, or the tokens from the
-- first on with which nothing goes on.
pub data Reading (T A : Type 0) : Type 0 where
  got : A → List T → Reading T A
  stuck : List T → Reading T A

-- with the value found, go on with the tokens after it
abbrev pub onward : {T A B : Type 0} → Reading T A → (A → List T → Reading T B) → Reading T B
onward (got v rest) next = next v rest
onward (stuck rest) next = stuck rest

-- the same, with another value
abbrev pub giving : {T A B : Type 0} → (A → B) → Reading T A → Reading T B
giving f (got v rest) = got (f v) rest
giving f (stuck rest) = stuck rest

-- the next token is of one of the kinds
abbrev pub next_in : {T : Type 0} → (T → ℕ) → List ℕ → List T → Bool
next_in kind ks [] = false
next_in kind ks (t ∷ ts) = has ks (kind t)

abbrev pub read_token : {T A : Type 0} → (T → ℕ) → List ℕ → (T → A) → List T → Reading T A
read_token kind ks f [] = stuck []
read_token kind ks f (t ∷ ts) = cond (has ks (kind t)) (got (f t) ts) (stuck (t ∷ ts))

-- one value after another, while the next token begins one, and no more than n
abbrev pub read_many : {T A : Type 0} → ℕ → (List T → Bool) → (List T → Reading T A) → List T → Reading T (List A)
read_many zero more reads ts = got [] ts
read_many (suc n) more reads ts = cond (more ts) (onward (reads ts) (λ v rest. giving (λ vs. v ∷ vs) (read_many n more reads rest))) (got [] ts)

-- a sentence of the rule may have no tokens
abbrev pub may_be_empty : {T V : Type 0} {Value : V → Type 0} {A : Type 0} → Rule T V Value A → Bool
may_be_empty (token ks f) = false
may_be_empty (both r s) = cond (may_be_empty r) (may_be_empty s) false
may_be_empty (gives f r) = may_be_empty r
may_be_empty (either r s) = cond (may_be_empty r) true (may_be_empty s)
may_be_empty (perhaps r) = true
may_be_empty (many r) = true
may_be_empty (begins ks r) = may_be_empty r
may_be_empty (deeper w) = false

-- the kinds that a sentence of the rule may begin with
abbrev pub first : {T V : Type 0} {Value : V → Type 0} {A : Type 0} → (V → List ℕ) → Rule T V Value A → List ℕ
first starts (token ks f) = ks
first starts (both r s) = first starts r ++ cond (may_be_empty r) (first starts s) []
first starts (gives f r) = first starts r
first starts (either r s) = first starts r ++ first starts s
first starts (perhaps r) = first starts r
first starts (many r) = first starts r
first starts (begins ks r) = ks
first starts (deeper w) = starts w

-- Reading by a rule with a look at the next token alone.
abbrev pub reads : {T V : Type 0} {Value : V → Type 0} {A : Type 0} → (T → ℕ) → (V → List ℕ) → ℕ → ((v : V) → List T → Reading T (Value v)) → Rule T V Value A → List T → Reading T A
reads kind starts n deep (token ks f) ts = read_token kind ks f ts
reads kind starts n deep (both r s) ts = onward (reads kind starts n deep r ts) (λ v rest. giving (λ w. (v, w)) (reads kind starts n deep s rest))
reads kind starts n deep (gives f r) ts = giving f (reads kind starts n deep r ts)
reads kind starts n deep (either r s) ts = cond (next_in kind (first starts r) ts) (reads kind starts n deep r ts) (reads kind starts n deep s ts)
reads kind starts n deep (perhaps r) ts = cond (next_in kind (first starts r) ts) (giving (λ v. Some v) (reads kind starts n deep r ts)) (got None ts)
reads kind starts n deep (many r) ts = read_many n (next_in kind (first starts r)) (reads kind starts n deep r) ts
reads kind starts n deep (begins ks r) ts = reads kind starts n deep r ts
reads kind starts n deep (deeper w) ts = deep w ts

abbrev pub reads_deep : {T V : Type 0} {Value : V → Type 0} → Grammar T V Value → ℕ → ℕ → (v : V) → List T → Reading T (Value v)
reads_deep g n zero v ts = reads g.kind g.starts n (λ w us. stuck us) (g.lowest v) ts
reads_deep g n (suc d) v ts = reads g.kind g.starts n (reads_deep g n d) (upper g v) ts

-- reading with repetitions of at most n members, at most d levels deep
abbrev pub reads_within : {T V : Type 0} {Value : V → Type 0} {A : Type 0} → Grammar T V Value → ℕ → ℕ → Rule T V Value A → List T → Reading T A
reads_within g n d r ts = reads g.kind g.starts n (reads_deep g n d) r ts

-- the same, where nothing may follow
abbrev pub ended : {T A : Type 0} → Reading T A → Reading T A
ended (got v []) = got v []
ended (got v (t ∷ ts)) = stuck (t ∷ ts)
ended (stuck ts) = stuck ts

-- the values that stand before those of a repetition
abbrev pub behind : {T A : Type 0} → List A → Reading T (List A) → Reading T (List A)
behind front reading = giving (λ vs. front ++ vs) reading

-- Rules and grammars, for tokens and values of any type.
use Rattle.std.specs.Prelude.{ℕ, List, Option}

-- A rule of a grammar: which lists of tokens are its sentences, and the value of each. T are the
-- tokens, and V names the rules that reach themselves, whose values are those of Value.
pub data Rule (T V : Type 0) (Value : V → Type 0) : Type 0 → Type 1 where
  -- one token, of one of these kinds
  token : {A : Type 0} → List ℕ → (T → A) → Rule T V Value A
  -- the one and then the other
  both : {A B : Type 0} → Rule T V Value A → Rule T V Value B → Rule T V Value (A × B)
  -- the same sentences, with another value
  gives : {A B : Type 0} → (A → B) → Rule T V Value A → Rule T V Value B
  either : {A : Type 0} → Rule T V Value A → Rule T V Value A → Rule T V Value A
  perhaps : {A : Type 0} → Rule T V Value A → Rule T V Value (Option A)
  many : {A : Type 0} → Rule T V Value A → Rule T V Value (List A)
  -- the same rule, with the kinds that its sentences begin with
  begins : {A : Type 0} → List ℕ → Rule T V Value A → Rule T V Value A
  -- a rule that reaches itself, one level deeper
  deeper : (v : V) → Rule T V Value (Value v)

-- A grammar: the kind of a token, a token of each kind, and the rules that reach themselves. Of
-- each of these the kinds that it begins with, those that may go on after a sentence of it as a
-- part of it, its sentences at the lowest level, and those that stand beside them at each level
-- above.
pub record Grammar (T V : Type 0) (Value : V → Type 0) : Type 1 where
  pub kind : T → ℕ
  pub sample : ℕ → T
  pub starts : V → List ℕ
  pub goes : V → List ℕ
  pub lowest : (v : V) → Rule T V Value (Value v)
  pub further : (v : V) → Rule T V Value (Value v)

abbrev pub upper : {T V : Type 0} {Value : V → Type 0} → Grammar T V Value → (v : V) → Rule T V Value (Value v)
upper g v = Rule.either (g.further v) (g.lowest v)

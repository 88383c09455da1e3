use Rattle.std.proofs.Common.{ℕ, zero, suc, ◌≤◌, List, [], ◌∷◌, inl, inr, Option, arith}
use Rattle.std.specs.Prelude.{Some, None}
use Rattle.carol_grammar.specs.Rule.{Rule, Grammar, upper}
use Rattle.carol_grammar.specs.Rule.Rule.{token, both, gives, either, perhaps, many, begins, deeper}
use Rattle.carol_grammar.specs.Sentence.{Repeats, Perhaps, Sentence, Deep}

-- What is a sentence within some bounds is one within larger ones.

pub repeats_grows : {T A : Type 0} (L M : List T → A → Type 0) (n m : ℕ) → n ≤ m → ((ts : List T) (v : A) → L ts v → M ts v) → (ts : List T) (vs : List A) → Repeats n L ts vs → Repeats m M ts vs
repeats_grows L M n m h f ts [] l = l
repeats_grows L M zero m h f ts (v ∷ vs) l = absurd l
repeats_grows L M (suc n) zero h f ts (v ∷ vs) l = absurd (omega arith)
repeats_grows L M (suc n) (suc m) h f ts (v ∷ vs) l = (l.0, l.1, l.2, f l.0 v l.3, repeats_grows L M n m (omega arith) f l.1 vs l.4)

perhaps_grows : {T A : Type 0} (L M : List T → A → Type 0) → ((ts : List T) (v : A) → L ts v → M ts v) → (ts : List T) (o : Option A) → Perhaps L ts o → Perhaps M ts o
perhaps_grows L M f ts None l = l
perhaps_grows L M f ts (Some v) l = f ts v l

module _ (T V : Type 0) (Value : V → Type 0) (kind : T → ℕ) (n m : ℕ) (h : n ≤ m) (E F : (v : V) → List T → Value v → Type 0) (f : (v : V) (ts : List T) (x : Value v) → E v ts x → F v ts x) where
  pub sentence_grows : {A : Type 0} (r : Rule T V Value A) (ts : List T) (v : A) → Sentence kind n E r ts v → Sentence kind m F r ts v
  sentence_grows (token ks c) ts v l = l
  sentence_grows (both r s) ts v l = (l.0, l.1, l.2, sentence_grows r l.0 v.0 l.3, sentence_grows s l.1 v.1 l.4)
  sentence_grows (gives c r) ts v l = (l.0, sentence_grows r ts l.0 l.1, l.2)
  sentence_grows (either r s) ts v l = elim l [ inl a ↦ inl (sentence_grows r ts v a) | inr b ↦ inr (sentence_grows s ts v b) ]
  sentence_grows (perhaps r) ts v l = perhaps_grows (Sentence kind n E r) (Sentence kind m F r) (sentence_grows r) ts v l
  sentence_grows (many r) ts v l = repeats_grows (Sentence kind n E r) (Sentence kind m F r) n m h (sentence_grows r) ts v l
  sentence_grows (begins ks r) ts v l = sentence_grows r ts v l
  sentence_grows (deeper w) ts v l = f w ts v l

module _ (T V : Type 0) (Value : V → Type 0) (g : Grammar T V Value) (n m : ℕ) (h : n ≤ m) where
  pub deep_grows : (d e : ℕ) → d ≤ e → (v : V) (ts : List T) (x : Value v) → Deep g n d v ts x → Deep g m e v ts x
  deep_grows zero zero k v ts x l = sentence_grows T V Value g.kind n m h (λ w us y. ⊥) (λ w us y. ⊥) (λ w us y b. b) (g.lowest v) ts x l
  deep_grows zero (suc e) k v ts x l = inr (sentence_grows T V Value g.kind n m h (λ w us y. ⊥) (Deep g m e) (λ w us y b. absurd b) (g.lowest v) ts x l)
  deep_grows (suc d) zero k v ts x l = absurd (omega arith)
  deep_grows (suc d) (suc e) k v ts x l = sentence_grows T V Value g.kind n m h (Deep g n d) (Deep g m e) (deep_grows d e (omega arith)) (upper g v) ts x l

  pub within_grows : {A : Type 0} (r : Rule T V Value A) (ts : List T) (v : A) → Sentence g.kind n (Deep g n n) r ts v → Sentence g.kind m (Deep g m m) r ts v
  within_grows r ts v l = sentence_grows T V Value g.kind n m h (Deep g n n) (Deep g m m) (deep_grows n m h) r ts v l

-- What holds of sentences rule by rule holds of every sentence.
use Rattle.std.proofs.Common.{◌≡◌, ℕ, zero, suc, true, ◌⊎◌, inl, inr, List, [], ◌∷◌, ◌++◌, Option, sym, subst, arith}
use Rattle.std.specs.Prelude.{Some, None}
use Rattle.carol_grammar.specs.Sets.{has}
use Rattle.carol_grammar.specs.Rule.{Rule, Grammar, upper}
use Rattle.carol_grammar.specs.Rule.Rule.{token, both, gives, either, perhaps, many, begins, deeper}
use Rattle.carol_grammar.specs.Sentence.{Language, Repeats, Perhaps, Sentence, Deep, IsSentence}

-- R holds of the tokens and the value of each sentence of the rule, where K holds of what stands a
-- level deeper.
pub record Says {T V : Type 0} {Value : V → Type 0} (kind : T → ℕ) (K : (v : V) → Language T (Value v)) {A : Type 0} (r : Rule T V Value A) (R : Language T A) : Type 1 where
  pub each : (n : ℕ) (deep : (v : V) → Language T (Value v)) → ((v : V) (ts : List T) (x : Value v) → deep v ts x → K v ts x)
      → (ts : List T) (v : A) → Sentence kind n deep r ts v → R ts v

-- both hold of two parts of the tokens and of the value
pub record Joined {T A B : Type 0} (R : Language T A) (S : Language T B) (ts : List T) (p : A × B) : Type 0 where
  pub front : List T
  pub back : List T
  pub split : ts ≡ front ++ back
  pub left : R front p.0
  pub right : S back p.1

repeated : {T A : Type 0} (L R : Language T A) (S : Language T (List A)) → ((ts : List T) (v : A) → L ts v → R ts v) → S [] [] → ((xs ys : List T) (v : A) (vs : List A) → R xs v → S ys vs → S (xs ++ ys) (v ∷ vs)) → (n : ℕ) (ts : List T) (vs : List A) → Repeats n L ts vs → S ts vs
repeated L R S f none more n ts [] l = subst (λ z. S z []) (sym l) none
repeated L R S f none more zero ts (v ∷ vs) l = absurd l
repeated L R S f none more (suc n) ts (v ∷ vs) l =
    subst (λ z. S z (v ∷ vs)) (sym l.2) (more l.0 l.1 v vs (f l.0 v l.3) (repeated L R S f none more n l.1 vs l.4))

module _ {T V : Type 0} {Value : V → Type 0} {kind : T → ℕ} {K : (v : V) → Language T (Value v)} where
  -- of a sentence of which nothing is said
  pub says_any : {A : Type 0} {r : Rule T V Value A} → Says kind K r (λ ts v. Unit {0})
  says_any = record { each = λ n deep fit ts v s. tt }

  pub says_token : {A : Type 0} {ks : List ℕ} {f : T → A} {R : Language T A} → ((t : T) → has ks (kind t) ≡ true → R (t ∷ []) (f t)) → Says kind K (token ks f) R
  says_token {R = R} h = record {
    each = λ n deep fit ts v s. subst (λ z. R z v) (sym s.1) (subst (R (s.0 ∷ [])) s.3 (h s.0 s.2));
  }

  pub says_gives : {A B : Type 0} {r : Rule T V Value A} {f : A → B} {R : Language T A} {S : Language T B} → Says kind K r R → ((ts : List T) (v : A) → R ts v → S ts (f v)) → Says kind K (gives f r) S
  says_gives {S = S} p h = record { each = λ n deep fit ts v s. subst (S ts) s.2 (h ts s.0 (p.each n deep fit ts s.0 s.1)) }

  -- the same sentences with less said
  pub says_less : {A : Type 0} {r : Rule T V Value A} {R S : Language T A} → Says kind K r R → ((ts : List T) (v : A) → R ts v → S ts v) → Says kind K r S
  says_less p h = record { each = λ n deep fit ts v s. h ts v (p.each n deep fit ts v s) }

  pub says_joined : {A B : Type 0} {r : Rule T V Value A} {s : Rule T V Value B} {R : Language T A} {S : Language T B} → Says kind K r R → Says kind K s S → Says kind K (both r s) (Joined R S)
  says_joined p q = record {
    each = λ n deep fit ts v s. record {
      front = s.0;
      back = s.1;
      split = s.2;
      left = p.each n deep fit s.0 v.0 s.3;
      right = q.each n deep fit s.1 v.1 s.4;
    };
  }

  pub says_both : {A B : Type 0} {r : Rule T V Value A} {s : Rule T V Value B} {R : Language T A} {S : Language T B} {U : Language T (A × B)} → Says kind K r R → Says kind K s S → ((xs ys : List T) (p : A × B) → R xs p.0 → S ys p.1 → U (xs ++ ys) p) → Says kind K (both r s) U
  says_both {U = U} p q h = says_less (says_joined p q) (λ ts v j. subst (λ z. U z v) (sym j.split) (h j.front j.back v j.left j.right))

  pub says_either : {A : Type 0} {r s : Rule T V Value A} {R : Language T A} → Says kind K r R → Says kind K s R → Says kind K (either r s) R
  says_either p q = record {
    each = λ n deep fit ts v s. elim s [ inl a ↦ p.each n deep fit ts v a | inr b ↦ q.each n deep fit ts v b ];
  }

  pub says_perhaps : {A : Type 0} {r : Rule T V Value A} {R : Language T A} {S : Language T (Option A)} → Says kind K r R → S [] None → ((ts : List T) (v : A) → R ts v → S ts (Some v)) → Says kind K (perhaps r) S
  says_perhaps {A = A} {r = r} {S = S} p none some = record { each = λ n deep fit ts v s. go n deep fit ts v s }
    where
      go : (n : ℕ) (deep : (v : V) → Language T (Value v)) → ((v : V) (ts : List T) (x : Value v) → deep v ts x → K v ts x) → (ts : List T) (o : Option A) → Perhaps (Sentence kind n deep r) ts o → S ts o
      go n deep fit ts None s = subst (λ z. S z None) (sym s) none
      go n deep fit ts (Some v) s = some ts v (p.each n deep fit ts v s)

  pub says_many : {A : Type 0} {r : Rule T V Value A} {R : Language T A} {S : Language T (List A)} → Says kind K r R → S [] [] → ((xs ys : List T) (v : A) (vs : List A) → R xs v → S ys vs → S (xs ++ ys) (v ∷ vs)) → Says kind K (many r) S
  says_many {r = r} {R = R} {S = S} p none more = record {
    each = λ n deep fit. repeated (Sentence kind n deep r) R S (p.each n deep fit) none more n;
  }

  pub says_begins : {A : Type 0} {ks : List ℕ} {r : Rule T V Value A} {R : Language T A} → Says kind K r R → Says kind K (begins ks r) R
  says_begins p = record { each = λ n deep fit ts v s. p.each n deep fit ts v s }

  pub says_deeper : (w : V) → Says kind K (deeper w) (K w)
  says_deeper w = record { each = λ n deep fit ts v s. fit w ts v s }

  -- two things at once
  pub says_two : {A : Type 0} {r : Rule T V Value A} {R S : Language T A} → Says kind K r R → Says kind K r S → Says kind K r (λ ts v. R ts v × S ts v)
  says_two p q = record { each = λ n deep fit ts v s. (p.each n deep fit ts v s, q.each n deep fit ts v s) }

module _ {T V : Type 0} {Value : V → Type 0} (g : Grammar T V Value) (K : (v : V) → Language T (Value v)) (lowest : (v : V) → Says g.kind K (g.lowest v) (K v)) (above : (v : V) → Says g.kind K (upper g v) (K v)) where
  deep_says : (n d : ℕ) (v : V) (ts : List T) (x : Value v) → Deep g n d v ts x → K v ts x
  deep_says n zero v ts x s = (lowest v).each n (λ w us y. ⊥) (λ w us y b. absurd b) ts x s
  deep_says n (suc d) v ts x s = (above v).each n (Deep g n d) (deep_says n d) ts x s

  -- what is said of the rules that reach themselves holds at each depth, and so of every sentence
  pub says_all : {A : Type 0} {r : Rule T V Value A} {R : Language T A} → Says g.kind K r R → (ts : List T) (v : A) → IsSentence g r ts v → R ts v
  says_all p ts v s = p.each s.0 (Deep g s.0 s.0) (deep_says s.0 s.0) ts v s.1

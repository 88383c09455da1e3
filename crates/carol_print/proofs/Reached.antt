-- What a list of tokens is reached by: a sentence of a rule at its front, and a list that spells
-- the pieces behind it.
use Rattle.std.proofs.Common.{◌≡◌, ℕ, zero, suc, ◌+◌, Bool, true, false, eqb, List, [], ◌∷◌, ◌++◌, Option, refl, sym, ◌∙◌, ap, subst, inl, inr, arith, append_assoc}
use Rattle.std.proofs.lemmas.List.{append-nil}
use Rattle.std.proofs.lemmas.Bool.Decides.{nat_tests}
use Rattle.std.proofs.lemmas.List.Sums.{fold_push}
use Rattle.std.specs.Prelude.{Some, None, fold}
use Rattle.carol_grammar.specs.Sets.{has}
use Rattle.carol_grammar.specs.Rule.{upper}
use Rattle.carol_grammar.specs.Rule.Rule.{token, both, gives, either, perhaps, many, begins, deeper}
use Rattle.carol_grammar.specs.Sentence.{Repeats, Sentence, Deep, IsSentence}
use Rattle.carol_grammar.proofs.Grows.{repeats_grows, within_grows, sentence_grows, deep_grows}
use Rattle.carol_syntax.specs.declared.kind.Kind.{Kind}
use Rattle.carol_syntax.specs.declared.kind.Kind.TheVariants as k
use Rattle.carol_syntax.specs.declared.lexeme.Lexeme.{Lexeme}
use Rattle.carol_grammar.specs.Terminals.{number_of, class_of}
use Rattle.carol_grammar.specs.Rules.{Knot, KnotValue, RuleOf, carol, word, spelling, behind_word, before_word}
use Rattle.carol_print.specs.Pieces.{Piece, Token, Space, Break, tokens_in, Spells}

-- the tokens of the pieces before others
abbrev pub onto : List Piece → List Piece → List Piece
onto [] us = us
onto (Token kind value spelled ∷ ps) us = Token kind value spelled ∷ onto ps us
onto (Space ∷ ps) us = onto ps us
onto (Break ∷ ps) us = onto ps us

pub onto-append : (ps qs us : List Piece) → onto (ps ++ qs) us ≡ onto ps (onto qs us)
onto-append [] qs us = refl
onto-append (Token kind value spelled ∷ ps) qs us = ap (λ z. Token kind value spelled ∷ z) (onto-append ps qs us)
onto-append (Space ∷ ps) qs us = onto-append ps qs us
onto-append (Break ∷ ps) qs us = onto-append ps qs us

pub onto_none : (ps : List Piece) → onto ps [] ≡ tokens_in ps
onto_none [] = refl
onto_none (Token kind value spelled ∷ ps) = ap (λ z. Token kind value spelled ∷ z) (onto_none ps)
onto_none (Space ∷ ps) = onto_none ps
onto_none (Break ∷ ps) = onto_none ps

-- the kind of a word or of a symbol
abbrev pub is_word_kind : Kind → Bool
is_word_kind k.Number = false
is_word_kind _ = true

not_number : (kind : Kind) → is_word_kind kind ≡ true → eqb (number_of kind) (number_of k.Number) ≡ false
unfolding number_of
not_number k.Number e = cc
not_number k.Name e = refl
not_number _ e = refl

word_class : (kind : Kind) → is_word_kind kind ≡ true → (l : Lexeme) → l.kind ≡ kind → has (number_of kind ∷ []) (class_of l) ≡ true
unfolding class_of
word_class kind h l e = rw e (rw (not_number kind h) (grind (arith, nat_tests)))

-- the value looks the same
abbrev pub Same : {A B : Type 0} → (A → B) → A → A → Type 0
Same view x y = view y ≡ view x

module _ (bytes : List ℕ) where
  -- the tokens are a sentence of the rule with this value
  abbrev pub Says : {A : Type 0} → RuleOf A → List Lexeme → A → Type 0
  Says r ts v = IsSentence (carol bytes) r ts v

  grown : {A : Type 0} (r : RuleOf A) (n m : ℕ) (ts : List Lexeme) (v : A) → Sentence class_of n (Deep (carol bytes) n n) r ts v
      → Sentence class_of (n + m) (Deep (carol bytes) (n + m) (n + m)) r ts v
  grown r n m ts v s = within_grows Lexeme Knot KnotValue (carol bytes) n (n + m) (omega arith) r ts v s

  grown_too : {A : Type 0} (r : RuleOf A) (n m : ℕ) (ts : List Lexeme) (v : A) → Sentence class_of n (Deep (carol bytes) n n) r ts v
      → Sentence class_of (m + n) (Deep (carol bytes) (m + n) (m + n)) r ts v
  grown_too r n m ts v s = within_grows Lexeme Knot KnotValue (carol bytes) n (m + n) (omega arith) r ts v s

  -- sentences of any length and depth, by their parts
  both_says : {A B : Type 0} (r : RuleOf A) (s : RuleOf B) (x y : List Lexeme) (a : A) (b : B) → Says r x a → Says s y b
      → Says (both r s) (x ++ y) (a, b)
  both_says r s x y a b p q = (p.0 + q.0, (x, y, refl, grown r p.0 q.0 x a p.1, grown_too s q.0 p.0 y b q.1))

  repeats_longer : {A : Type 0} (r : RuleOf A) (n : ℕ) (y : List Lexeme) (vs : List A)
      → Repeats n (Sentence class_of n (Deep (carol bytes) n n) r) y vs
      → Repeats n (Sentence class_of (suc n) (Deep (carol bytes) (suc n) (suc n)) r) y vs
  repeats_longer r n y vs l =
      repeats_grows (Sentence class_of n (Deep (carol bytes) n n) r) (Sentence class_of (suc n) (Deep (carol bytes) (suc n) (suc n)) r) n n
      (omega arith) (λ ts v s. within_grows Lexeme Knot KnotValue (carol bytes) n (suc n) (omega arith) r ts v s) y vs l

  none_says : {A : Type 0} (r : RuleOf A) → Says (many r) [] []
  none_says r = (0, refl)

  more_says : {A : Type 0} (r : RuleOf A) (x y : List Lexeme) (v : A) (vs : List A) → Says r x v → Says (many r) y vs
      → Says (many r) (x ++ y) (v ∷ vs)
  more_says r x y v vs p q = (
    suc (p.0 + q.0),
    (
      x,
      y,
      refl,
      within_grows Lexeme Knot KnotValue (carol bytes) p.0 (suc (p.0 + q.0)) (omega arith) r x v p.1,
      repeats_longer r (p.0 + q.0) y vs (grown_too (many r) q.0 p.0 y vs q.1),
    ),
  )

  repeats_further : {A : Type 0} (r : RuleOf A) (n m : ℕ) (y : List Lexeme) (vs : List A)
      → Repeats n (Sentence class_of m (Deep (carol bytes) m m) r) y vs
      → Repeats (suc n) (Sentence class_of m (Deep (carol bytes) m m) r) y vs
  repeats_further r n m y vs l =
      repeats_grows (Sentence class_of m (Deep (carol bytes) m m) r) (Sentence class_of m (Deep (carol bytes) m m) r) n (suc n)
      (omega arith) (λ ts v s. s) y vs l

  -- one more at the end
  last_says : {A : Type 0} (r : RuleOf A) (x y : List Lexeme) (vs : List A) (v : A) → Says (many r) x vs → Says r y v
      → Says (many r) (x ++ y) (vs ++ v ∷ [])
  last_says r x y [] v p q =
      subst (λ z. Says (many r) z (v ∷ [])) (append-nil y ∙ ap (λ z. z ++ y) (sym p.1)) (more_says r y [] v [] q (none_says r))
  last_says r x y (w ∷ vs) v (suc n, p) q =
      subst (λ z. Says (many r) z (w ∷ (vs ++ v ∷ []))) (sym (append_assoc p.0 p.1 y) ∙ ap (λ z. z ++ y) (sym p.2))
      (more_says r p.0 (p.1 ++ y) w (vs ++ v ∷ []) (suc n, p.3) (last_says r p.1 y vs v (suc n, repeats_further r n (suc n) p.1 vs p.4) q))
  last_says r x y (w ∷ vs) v (zero, p) q = absurd p

  -- one more member at the end of those that are folded
  folded_says : {A : Type 0} (f : A → A → A) (r s : RuleOf A) (x y : List Lexeme) (a b : A)
      → Says (gives (λ p. fold f p.0 p.1) (both r (many s))) x a → Says s y b
      → Says (gives (λ p. fold f p.0 p.1) (both r (many s))) (x ++ y) (f a b)
  folded_says f r s x y a b (n, (w, p, e)) q =
      let more = last_says s p.1 y w.1 b (n, p.4) q in
      let whole = both_says r (many s) p.0 (p.1 ++ y) w.0 (w.1 ++ b ∷ []) (n, p.3) more in
      subst (λ z. Says (gives (λ p. fold f p.0 p.1) (both r (many s))) z (f a b))
      (sym (append_assoc p.0 p.1 y) ∙ ap (λ z. z ++ y) (sym p.2))
      (whole.0, ((w.0, w.1 ++ b ∷ []), whole.1, fold_push f w.0 w.1 b ∙ ap (λ z. f z b) e))

  deeper_says : (v : Knot) (x : List Lexeme) (a : KnotValue v) → Says (upper (carol bytes) v) x a → Says (deeper v) x a
  deeper_says v x a p = (
    suc p.0,
    sentence_grows Lexeme Knot KnotValue class_of p.0 (suc p.0) (omega arith) (Deep (carol bytes) p.0 p.0)
        (Deep (carol bytes) (suc p.0) p.0) (deep_grows Lexeme Knot KnotValue (carol bytes) p.0 (suc p.0) (omega arith) p.0 p.0 (omega arith))
        (upper (carol bytes) v) x a p.1,
  )

  -- A sentence of the rule with such a value stands at the front of the tokens, and what is behind
  -- it spells the rest.
  pub record Reached {A : Type 0} (r : RuleOf A) (us : List Piece) (P : A → Type 0) (list : List Lexeme) : Type 0 where
    pub front : List Lexeme
    pub back : List Lexeme
    pub value : A
    pub split : list ≡ front ++ back
    pub says : Says r front value
    pub fits : P value
    pub left : Spells bytes back us

  -- the pieces begin with those of a sentence of the rule with such a value, and the others are
  -- left
  pub record Reaches {A : Type 0} (r : RuleOf A) (ts us : List Piece) (P : A → Type 0) : Type 0 where
    pub at : (list : List Lexeme) → Spells bytes list ts → Reached r us P list

module _ {bytes : List ℕ} where
  -- What is reached by one rule is reached by another of which the same tokens are a sentence.
  reach_as : {A B : Type 0} {r : RuleOf A} {s : RuleOf B} {ts us : List Piece} {P : A → Type 0} {Q : B → Type 0} (f : A → B)
      → Reaches bytes r ts us P → ((x : List Lexeme) (v : A) → Says bytes r x v → Says bytes s x (f v))
      → ((v : A) → P v → Q (f v)) → Reaches bytes s ts us Q
  reach_as f p says fits = record {
    at = λ list h. let x = p.at list h in record {
      front = x.front;
      back = x.back;
      value = f x.value;
      split = x.split;
      says = says x.front x.value x.says;
      fits = fits x.value x.fits;
      left = x.left;
    };
  }

  -- What is reached by two rules, one behind the other, is reached by a third where their sentences
  -- together are its own.
  reach_joined : {A B C : Type 0} {r : RuleOf A} {s : RuleOf B} {t : RuleOf C} {ts us vs : List Piece} {P : A → Type 0} {Q : B → Type 0}
      {R : C → Type 0} (f : A → B → C) → Reaches bytes r ts us P → Reaches bytes s us vs Q
      → ((x y : List Lexeme) (a : A) (b : B) → Says bytes r x a → Says bytes s y b → Says bytes t (x ++ y) (f a b))
      → ((a : A) (b : B) → P a → Q b → R (f a b)) → Reaches bytes t ts vs R
  reach_joined f p q says fits = record {
    at = λ list h. let x = p.at list h in let y = q.at x.back x.left in record {
      front = x.front ++ y.front;
      back = y.back;
      value = f x.value y.value;
      split = x.split ∙ ap (λ z. x.front ++ z) y.split ∙ sym (append_assoc x.front y.front y.back);
      says = says x.front y.front x.value y.value x.says y.says;
      fits = fits x.value y.value x.fits y.fits;
      left = y.left;
    };
  }

  pub reach_gives : {A B : Type 0} {r : RuleOf A} {f : A → B} {ts us : List Piece} {P : A → Type 0} {Q : B → Type 0}
      → Reaches bytes r ts us P → ((v : A) → P v → Q (f v)) → Reaches bytes (gives f r) ts us Q
  reach_gives {f = f} p h = reach_as f p (λ x v s. (s.0, (v, s.1, refl))) h

  -- the same with less known of the value
  pub reach_with : {A : Type 0} {r : RuleOf A} {ts us : List Piece} {P Q : A → Type 0} → Reaches bytes r ts us P
      → ((v : A) → P v → Q v) → Reaches bytes r ts us Q
  reach_with p h = reach_as (λ v. v) p (λ x v s. s) h

  pub reach_left : {A : Type 0} {r s : RuleOf A} {ts us : List Piece} {P : A → Type 0} → Reaches bytes r ts us P
      → Reaches bytes (either r s) ts us P
  reach_left p = reach_as (λ v. v) p (λ x v s. (s.0, inl s.1)) (λ v h. h)

  pub reach_right : {A : Type 0} {r s : RuleOf A} {ts us : List Piece} {P : A → Type 0} → Reaches bytes s ts us P
      → Reaches bytes (either r s) ts us P
  reach_right p = reach_as (λ v. v) p (λ x v s. (s.0, inr s.1)) (λ v h. h)

  pub reach_begins : {A : Type 0} {r : RuleOf A} {ks : List ℕ} {ts us : List Piece} {P : A → Type 0} → Reaches bytes r ts us P
      → Reaches bytes (begins ks r) ts us P
  reach_begins p = reach_as (λ v. v) p (λ x v s. s) (λ v h. h)

  pub reach_deeper : {v : Knot} {ts us : List Piece} {P : KnotValue v → Type 0} → Reaches bytes (upper (carol bytes) v) ts us P
      → Reaches bytes (deeper v) ts us P
  reach_deeper {v} p = reach_as (λ a. a) p (deeper_says bytes v) (λ a h. h)

  pub reach_some : {A : Type 0} {r : RuleOf A} {ts us : List Piece} {P : A → Type 0} {Q : Option A → Type 0}
      → Reaches bytes r ts us P → ((v : A) → P v → Q (Some v)) → Reaches bytes (perhaps r) ts us Q
  reach_some p h = reach_as (λ v. Some v) p (λ x v s. s) h

  pub reach_none : {A : Type 0} {r : RuleOf A} {us : List Piece} {Q : Option A → Type 0} → Q None → Reaches bytes (perhaps r) us us Q
  reach_none q = record {
    at = λ list h. record { front = []; back = list; value = None; split = refl; says = (0, refl); fits = q; left = h };
  }

  pub reach_end : {A : Type 0} {r : RuleOf A} {us : List Piece} {Q : List A → Type 0} → Q [] → Reaches bytes (many r) us us Q
  reach_end q = record {
    at = λ list h. record { front = []; back = list; value = []; split = refl; says = (0, refl); fits = q; left = h };
  }

  pub reach_both : {A B : Type 0} {r : RuleOf A} {s : RuleOf B} {ts us vs : List Piece} {P : A → Type 0} {Q : B → Type 0}
      → Reaches bytes r ts us P → Reaches bytes s us vs Q → Reaches bytes (both r s) ts vs (λ p. P p.0 × Q p.1)
  reach_both {r = r} {s = s} p q = reach_joined (λ a b. (a, b)) p q (both_says bytes r s) (λ a b g h. (g, h))

  pub reach_more : {A : Type 0} {r : RuleOf A} {ts us vs : List Piece} {P : A → Type 0} {Q R : List A → Type 0}
      → Reaches bytes r ts us P → Reaches bytes (many r) us vs Q → ((x : A) (xs : List A) → P x → Q xs → R (x ∷ xs))
      → Reaches bytes (many r) ts vs R
  reach_more {r = r} p q h = reach_joined (λ x xs. x ∷ xs) p q (more_says bytes r) h

  pub reach_along : {A : Type 0} {r : RuleOf A} {ts ts' us : List Piece} {P : A → Type 0} → ts ≡ ts' → Reaches bytes r ts' us P
      → Reaches bytes r ts us P
  reach_along {r = r} {us = us} {P = P} e p = subst (λ z. Reaches bytes r z us P) (sym e) p

  -- one token of the kinds
  pub reach_token : {ks : List ℕ} {kind : Kind} {value : ℕ} {spelled : List ℕ} {us : List Piece}
      → ((l : Lexeme) → l.kind ≡ kind → l.value ≡ value → has ks (class_of l) ≡ true)
      → Reaches bytes (token ks (λ (l : Lexeme). l)) (Token kind value spelled ∷ us) us
      (λ l. (l.kind ≡ kind) × (l.value ≡ value) × (spelling bytes l ≡ spelled))
  reach_token {ks = ks} {kind = kind} {value = value} {spelled = spelled} {us = us} f = record { at = λ list h. go list h }
    where
      go : (list : List Lexeme) → Spells bytes list (Token kind value spelled ∷ us)
          → Reached bytes (token ks (λ (l : Lexeme). l)) us (λ l. (l.kind ≡ kind) × (l.value ≡ value) × (spelling bytes l ≡ spelled)) list
      go [] h = absurd h
      go (l ∷ ls) h = record { front = l ∷ []; back = ls; value = l; split = refl; says = (0, (l, refl, f l h.0.0 h.0.1, refl)); fits = h.0; left = h.1 }

  pub reach_word : {kind : Kind} {value : ℕ} {spelled : List ℕ} {us : List Piece} → is_word_kind kind ≡ true
      → Reaches bytes (word kind) (Token kind value spelled ∷ us) us
      (λ l. (l.kind ≡ kind) × (l.value ≡ value) × (spelling bytes l ≡ spelled))
  reach_word {kind = kind} e = reach_token (λ l h g. word_class kind e l h)

  pub reach_behind : {A : Type 0} {r : RuleOf A} {kind : Kind} {value : ℕ} {spelled : List ℕ} {ts us : List Piece} {P : A → Type 0}
      → is_word_kind kind ≡ true → Reaches bytes r ts us P → Reaches bytes (behind_word kind r) (Token kind value spelled ∷ ts) us P
  reach_behind e p = reach_gives (reach_both (reach_word e) p) (λ v h. h.1)

  pub reach_before : {A : Type 0} {r : RuleOf A} {kind : Kind} {value : ℕ} {spelled : List ℕ} {ts us : List Piece} {P : A → Type 0}
      → is_word_kind kind ≡ true → Reaches bytes r ts (Token kind value spelled ∷ us) P → Reaches bytes (before_word r kind) ts us P
  reach_before e p = reach_gives (reach_both p (reach_word e)) (λ v h. h.0)

  pub reach_folded : {A : Type 0} {f : A → A → A} {r s : RuleOf A} {ts us vs : List Piece} {P Q R : A → Type 0}
      → Reaches bytes (gives (λ p. fold f p.0 p.1) (both r (many s))) ts us P → Reaches bytes s us vs Q
      → ((a b : A) → P a → Q b → R (f a b)) → Reaches bytes (gives (λ p. fold f p.0 p.1) (both r (many s))) ts vs R
  reach_folded {f = f} {r = r} {s = s} p q h = reach_joined f p q (folded_says bytes f r s) h

use Rattle.std.proofs.Common.{◌≡◌, ℕ, ◌+◌, ◌≤◌, ◌<◌, true, List, [], ◌∷◌, ◌++◌, length, refl, sym, ◌∙◌, ap, subst, inl, inr, arith, length-append}
use Rattle.std.proofs.lemmas.List.{append-nil}
use Rattle.carol_grammar.specs.Rule.{Rule, Grammar}
use Rattle.carol_grammar.specs.Sentence.{Sentence, Deep, IsSentence, Begins}
use Rattle.carol_grammar.specs.Reading.{Reading, first, may_be_empty, reads_within, ended}
use Rattle.carol_grammar.specs.Reading.Reading.{got, stuck}
use Rattle.carol_grammar.specs.Sound.{goes_on, is_sound, IsSound}
use Rattle.carol_grammar.specs.Found.{IsFault, Answers}
use Rattle.carol_grammar.proofs.Right.{Right}
use Rattle.carol_grammar.proofs.RightDeep.{right_within}
use Rattle.carol_grammar.proofs.Grows.{within_grows}
use Rattle.carol_grammar.proofs.Alike.{SameNext, Like, left}
use Rattle.carol_grammar.proofs.AlikeDeep.{alike_within}

-- Reading a whole list by a sound rule of a sound grammar, within bounds above the list's length,
-- answers what the grammar says.

whole_like : {T A : Type 0} (a b : Reading T A) (w : A) → b ≡ got w [] → Like [] [] a b → a ≡ got w []
whole_like a b w h (inl l) = l.2 ∙ sym l.3 ∙ h
whole_like a b w h (inr (inl l)) = let z : b ≡ stuck (l.0 ++ []) = l.2 in cc
whole_like a b w h (inr (inr l)) = let z : [] ≡ l.0.0 ∷ (l.0.1 ++ left a) = l.0.2 in cc

never_empty : {T : Type 0} (q : List T) (t : T) (ts : List T) → q ++ t ∷ ts ≡ [] → ⊥
never_empty [] t ts e = cc
never_empty (u ∷ q) t ts e = cc

no_longer_tail : {T : Type 0} (x : List T) (t : T) (q : List T) → x ≡ t ∷ (q ++ x) → ⊥
no_longer_tail {T} x t q e =
    let n : length x ≡ length (t ∷ (q ++ x)) = ap (λ (z : List T). length z) e in
    omega (arith, n, length-append q x)

no_like : {T A : Type 0} (t : T) (rest more : List T) (a b : Reading T A) (w : A) → left a ≡ t ∷ rest → b ≡ got w [] → Like (t ∷ rest) (t ∷ more) a b → ⊥
no_like t rest more a b w e f (inl l) =
    let z : got l.0 (l.1 ++ t ∷ more) ≡ got w [] = sym l.3 ∙ f in
    let n : l.1 ++ t ∷ more ≡ [] = cc in
    never_empty l.1 t more n
no_like t rest more a b w e f (inr (inl l)) = let z : b ≡ stuck (l.0 ++ t ∷ more) = l.2 in cc
no_like t rest more a b w e f (inr (inr l)) =
    no_longer_tail (t ∷ rest) l.0.0 l.0.1 (l.0.2 ∙ ap (λ z. l.0.0 ∷ (l.0.1 ++ z)) e)

module _ (T V : Type 0) (Value : V → Type 0) (g : Grammar T V Value) (sound : IsSound g) (A : Type 0) (r : Rule T V Value A) (h : is_sound g true r ≡ true) where
  right : (n : ℕ) → Right g.kind (Sentence g.kind n (Deep g n n) r) (reads_within g n n r) (first g.starts r) (goes_on g r) (may_be_empty r)
  right n = right_within T V Value g sound n n r h

  -- a sentence is read whole within some bounds above any others
  read_whole : (n : ℕ) (ts : List T) (w : A) → IsSentence g r ts w → (m : ℕ) × (n ≤ m) × (reads_within g m m r ts ≡ got w [])
  read_whole n ts w s =
      let large = within_grows T V Value g s.0 (s.0 + n) (omega arith) r ts w s.1 in
      let R = right (s.0 + n) in
      (s.0 + n, omega arith, ap (reads_within g (s.0 + n) (s.0 + n) r) (sym (append-nil ts)) ∙ R.complete ts w [] large refl)

  like : (n m : ℕ) (p x y : List T) → length p < n → n ≤ m → SameNext x y → Like x y (reads_within g n n r (p ++ x)) (reads_within g m m r (p ++ y))
  like n m p x y c d same = alike_within T V Value g sound n m n n m (omega arith) d (omega arith) d r h p x y c same

  settled : (n : ℕ) (ts : List T) (w : A) → length ts < n → IsSentence g r ts w → reads_within g n n r ts ≡ got w []
  settled n ts w c s =
      let b = read_whole n ts w s in
      let e = append-nil ts in
      sym (ap (reads_within g n n r) e) ∙ whole_like (reads_within g n n r (ts ++ [])) (reads_within g b.0 b.0 r (ts ++ [])) w (ap (reads_within g b.0 b.0 r) e ∙ b.2) (like n b.0 ts [] [] c b.1 tt)

  -- where a reading stopped, no sentence goes on
  blocked : (n : ℕ) (front : List T) (t : T) (rest more : List T) (w : A) → length front < n → left (reads_within g n n r (front ++ t ∷ rest)) ≡ t ∷ rest → IsSentence g r (front ++ t ∷ more) w → ⊥
  blocked n front t rest more w c e s =
      let b = read_whole n (front ++ t ∷ more) w s in
      no_like t rest more (reads_within g n n r (front ++ t ∷ rest)) (reads_within g b.0 b.0 r (front ++ t ∷ more)) w e b.2 (like n b.0 front (t ∷ rest) (t ∷ more) c b.1 refl)

  front_short : (n : ℕ) (ts front rest : List T) → length ts < n → ts ≡ front ++ rest → length front < n
  front_short n ts front rest c e =
      let m : length ts ≡ length (front ++ rest) = ap (λ (z : List T). length z) e in
      omega (arith, m, length-append front rest)

  -- the fault of a reading that stopped before its end
  stopped : (n : ℕ) (ts front : List T) (t : T) (rest : List T) → length ts < n → ts ≡ front ++ t ∷ rest → left (reads_within g n n r ts) ≡ t ∷ rest → Begins g r front → IsFault g r ts (t ∷ rest)
  stopped n ts front t rest c e f begun = record {
    front = front;
    split = e;
    begun = begun;
    none = λ more w s. blocked n front t rest more w (front_short n ts front (t ∷ rest) c e) (subst (λ z. left (reads_within g n n r z) ≡ t ∷ rest) e f) s;
  }

  found_all : (n : ℕ) (ts : List T) (v : A) (rest : List T) → length ts < n → reads_within g n n r ts ≡ got v rest → Answers g r ts (ended (got v rest))
  found_all n ts v [] c e =
      let x = (right n).sound ts v [] e in
      let whole : IsSentence g r ts v = subst (λ z. IsSentence g r z v) (sym (append-nil x.0) ∙ sym x.1) (n, x.2) in (
        refl,
        record {
          found = whole;
          only = λ w s. let z : got w [] ≡ got v [] = sym (settled n ts w c s) ∙ e in cc;
        },
      )
  found_all n ts v (t ∷ rest) c e =
      let x = (right n).sound ts v (t ∷ rest) e in
      stopped n ts x.0 t rest c x.1 (ap (λ z. left z) e) ([], v, (n, subst (λ z. Sentence g.kind n (Deep g n n) r z v) (sym (append-nil x.0)) x.2))

  found_fault : (n : ℕ) (ts rest : List T) → length ts < n → reads_within g n n r ts ≡ stuck rest → IsFault g r ts rest
  found_fault n ts [] c e =
      let x = (right n).viable ts [] e in
      let whole = x.1 ∙ append-nil x.0 in
      record {
        front = x.0;
        split = x.1;
        begun = (x.2, x.3, (n, x.4));
        none = λ w s. let z : got w [] ≡ stuck [] = sym (settled n x.0 w (front_short n ts x.0 [] c x.1) s) ∙ ap (reads_within g n n r) (sym whole) ∙ e in cc;
      }
  found_fault n ts (t ∷ rest) c e =
      let x = (right n).viable ts (t ∷ rest) e in
      stopped n ts x.0 t rest c x.1 (ap (λ z. left z) e) (x.2, x.3, (n, x.4))

  pub answered : (n : ℕ) (ts : List T) → length ts < n → Answers g r ts (ended (reads_within g n n r ts))
  answered n ts c = go (reads_within g n n r ts) refl
    where
      go : (z : Reading T A) → reads_within g n n r ts ≡ z → Answers g r ts (ended z)
      go (got v rest) e = found_all n ts v rest c e
      go (stuck rest) e = found_fault n ts rest c e

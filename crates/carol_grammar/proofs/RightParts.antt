use Rattle.std.proofs.Common.{◌≡◌, ℕ, Bool, true, false, cond, List, [], ◌∷◌, ◌++◌, refl, ◌∙◌, ap, subst, ◌⊎◌, inl, inr, Option}
use Rattle.std.specs.Prelude.{Some, None}
use Rattle.carol_grammar.specs.Sets.{has, within, apart}
use Rattle.carol_grammar.specs.Sentence.{Perhaps}
use Rattle.carol_grammar.specs.Reading.{Reading, giving, next_in, read_token}
use Rattle.carol_grammar.specs.Reading.Reading.{got, stuck}
use Rattle.carol_grammar.specs.Sound.{has_sample}
use Rattle.carol_grammar.proofs.SetLemmas.{has-left, has-right, has-within, apart_left, next_none}
use Rattle.carol_grammar.proofs.ReadingLemmas.{giving_got, giving_stuck, got_as, stuck_as, chosen}
use Rattle.carol_grammar.proofs.Right.{Right, opens}

-- One token.

module _ (T A : Type 0) (kind : T → ℕ) (sample : ℕ → T) (ks : List ℕ) (f : T → A) (some : has_sample kind sample ks ≡ true) where
  abbrev One : List T → A → Type 0
  One ts v = (t : T) × (ts ≡ t ∷ []) × (has ks (kind t) ≡ true) × (f t ≡ v)

  abbrev Viable : List T → List T → Type 0
  Viable ts rest = (front : List T) × (ts ≡ front ++ rest) × (more : List T) × (v : A) × One (front ++ more) v

  sample_of : (js : List ℕ) → has_sample kind sample js ≡ true → (t : T) × (has js (kind t) ≡ true)
  sample_of [] h = cc
  sample_of (k ∷ js) h = (sample k, h)

  one : (v : A) × (ts : List T) × One ts v
  one = let s = sample_of ks some in (f s.0, s.0 ∷ [], (s.0, refl, s.1, refl))

  sound_token : (ts : List T) (v : A) (rest : List T) → read_token kind ks f ts ≡ got v rest → (front : List T) × (ts ≡ front ++ rest) × One front v
  sound_token [] v rest q = cc
  sound_token (t ∷ ts) v rest q = go (chosen (has ks (kind t)) (got (f t) ts) (stuck (t ∷ ts)) (got v rest) q)
    where
      go : ((has ks (kind t) ≡ true) × (got (f t) ts ≡ got v rest)) ⊎ ((has ks (kind t) ≡ false) × (stuck_as A (t ∷ ts) ≡ got v rest)) → (front : List T) × (t ∷ ts ≡ front ++ rest) × One front v
      go (inl p) = let z : got (f t) ts ≡ got v rest = p.1 in let e : ts ≡ rest = cc in let e' : f t ≡ v = cc in (t ∷ [], ap (λ us. t ∷ us) e, (t, refl, p.0, e'))
      go (inr p) = let z : stuck_as A (t ∷ ts) ≡ got v rest = p.1 in cc

  complete_token : (front : List T) (v : A) (rest : List T) → One front v → read_token kind ks f (front ++ rest) ≡ got v rest
  complete_token front v rest l =
      ap (λ z. read_token kind ks f (z ++ rest)) l.1 ∙ ap (λ z. cond z (got (f l.0) rest) (stuck (l.0 ∷ rest))) l.2 ∙ ap (λ z. got z rest) l.3

  viable_token : (ts rest : List T) → read_token kind ks f ts ≡ stuck rest → Viable ts rest
  viable_token [] rest q = let e : [] ≡ rest = cc in ([], e, one.1, one.0, one.2)
  viable_token (t ∷ ts) rest q = go (chosen (has ks (kind t)) (got (f t) ts) (stuck (t ∷ ts)) (stuck rest) q)
    where
      go : ((has ks (kind t) ≡ true) × (got (f t) ts ≡ stuck rest)) ⊎ ((has ks (kind t) ≡ false) × (stuck_as A (t ∷ ts) ≡ stuck rest)) → Viable (t ∷ ts) rest
      go (inl p) = let z : got (f t) ts ≡ stuck rest = p.1 in cc
      go (inr p) = let z : stuck_as A (t ∷ ts) ≡ stuck rest = p.1 in let e : t ∷ ts ≡ rest = cc in ([], e, one.1, one.0, one.2)

  pub right_token : Right kind One (read_token kind ks f) ks [] false
  right_token = record {
    sound = sound_token;
    complete = λ front v rest l q. complete_token front v rest l;
    viable = viable_token;
    begins = λ t ts v l. let e : t ≡ l.0 = cc l.1 in ap (λ z. has ks (kind z)) e ∙ l.2;
    filled = λ v l. let z : [] ≡ l.0 ∷ [] = l.1 in cc;
    some = (one.1, one.0, one.2);
  }

-- The same with another value.

module _ (T A B : Type 0) (kind : T → ℕ) (L : List T → A → Type 0) (r : List T → Reading T A) (b g : List ℕ) (d : Bool) (R : Right kind L r b g d) (f : A → B) where
  abbrev Gives : List T → B → Type 0
  Gives ts v = (w : A) × L ts w × (f w ≡ v)

  sound_gives : (ts : List T) (v : B) (rest : List T) → giving f (r ts) ≡ got v rest → (front : List T) × (ts ≡ front ++ rest) × Gives front v
  sound_gives ts v rest q =
      let p = giving_got f (r ts) v rest q in
      let x = R.sound ts p.0 rest p.1 in
      (x.0, x.1, (p.0, x.2, p.2))

  pub right_gives : Right kind Gives (λ ts. giving f (r ts)) b g d
  right_gives = record {
    sound = sound_gives;
    complete = λ front v rest l q. ap (λ z. giving f z) (R.complete front l.0 rest l.1 q) ∙ ap (λ z. got z rest) l.2;
    viable = λ ts rest q. let x = R.viable ts rest (giving_stuck f (r ts) rest q) in (x.0, x.1, x.2, f x.3, (x.3, x.4, refl));
    begins = λ t ts v l. R.begins t ts l.0 l.1;
    filled = λ v l. R.filled l.0 l.1;
    some = (R.some.0, f R.some.1, (R.some.1, R.some.2, refl));
  }

-- Either.

module _ (T A : Type 0) (kind : T → ℕ) (L M : List T → A → Type 0) (r s : List T → Reading T A) (b g c h : List ℕ) (d e : Bool) (R : Right kind L r b g d) (S : Right kind M s c h e) (never : d ≡ false) (nor : e ≡ false) (far : apart b c ≡ true) where
  abbrev Either : List T → A → Type 0
  Either ts v = L ts v ⊎ M ts v

  abbrev reads_either : List T → Reading T A
  reads_either ts = cond (next_in kind b ts) (r ts) (s ts)

  sound_either : (ts : List T) (v : A) (rest : List T) → reads_either ts ≡ got v rest → (front : List T) × (ts ≡ front ++ rest) × Either front v
  sound_either ts v rest q = go (chosen (next_in kind b ts) (r ts) (s ts) (got v rest) q)
    where
      go : ((next_in kind b ts ≡ true) × (r ts ≡ got v rest)) ⊎ ((next_in kind b ts ≡ false) × (s ts ≡ got v rest)) → (front : List T) × (ts ≡ front ++ rest) × Either front v
      go (inl p) = let x = R.sound ts v rest p.1 in (x.0, x.1, inl x.2)
      go (inr p) = let x = S.sound ts v rest p.1 in (x.0, x.1, inr x.2)

  other : (front : List T) (v : A) (rest : List T) → M front v → next_in kind b (front ++ rest) ≡ false
  other [] v rest m = let z : e ≡ true = S.filled v m in cc
  other (t ∷ ts) v rest m = apart_left b c (kind t) far (S.begins t ts v m)

  complete_either : (front : List T) (v : A) (rest : List T) → Either front v → next_in kind (g ++ h) rest ≡ false → reads_either (front ++ rest) ≡ got v rest
  complete_either front v rest (inl l) q =
      ap (λ z. cond z (r (front ++ rest)) (s (front ++ rest))) (opens kind L r b g d R never front rest v l) ∙ R.complete front v rest l (next_none kind g h rest q).0
  complete_either front v rest (inr m) q =
      ap (λ z. cond z (r (front ++ rest)) (s (front ++ rest))) (other front v rest m) ∙ S.complete front v rest m (next_none kind g h rest q).1

  viable_either : (ts rest : List T) → reads_either ts ≡ stuck rest → (front : List T) × (ts ≡ front ++ rest) × (more : List T) × (v : A) × Either (front ++ more) v
  viable_either ts rest q = go (chosen (next_in kind b ts) (r ts) (s ts) (stuck rest) q)
    where
      go : ((next_in kind b ts ≡ true) × (r ts ≡ stuck rest)) ⊎ ((next_in kind b ts ≡ false) × (s ts ≡ stuck rest)) → (front : List T) × (ts ≡ front ++ rest) × (more : List T) × (v : A) × Either (front ++ more) v
      go (inl p) = let x = R.viable ts rest p.1 in (x.0, x.1, x.2, x.3, inl x.4)
      go (inr p) = let x = S.viable ts rest p.1 in (x.0, x.1, x.2, x.3, inr x.4)

  begins_either : (t : T) (ts : List T) (v : A) → Either (t ∷ ts) v → has (b ++ c) (kind t) ≡ true
  begins_either t ts v (inl l) = has-left b c (kind t) (R.begins t ts v l)
  begins_either t ts v (inr m) = has-right b c (kind t) (S.begins t ts v m)

  filled_either : (v : A) → Either [] v → cond d true e ≡ true
  filled_either v (inl l) = let z : d ≡ true = R.filled v l in cc
  filled_either v (inr m) = let z : e ≡ true = S.filled v m in cc

  pub right_either : Right kind Either reads_either (b ++ c) (g ++ h) (cond d true e)
  right_either = record {
    sound = sound_either;
    complete = complete_either;
    viable = viable_either;
    begins = begins_either;
    filled = filled_either;
    some = (R.some.0, R.some.1, inl R.some.2);
  }

-- Perhaps.

module _ (T A : Type 0) (kind : T → ℕ) (L : List T → A → Type 0) (r : List T → Reading T A) (b g : List ℕ) (d : Bool) (R : Right kind L r b g d) (never : d ≡ false) where
  abbrev reads_perhaps : List T → Reading T (Option A)
  reads_perhaps ts = cond (next_in kind b ts) (giving (λ v. Some v) (r ts)) (got None ts)

  abbrev Sound : List T → Option A → List T → Type 0
  Sound ts o rest = (front : List T) × (ts ≡ front ++ rest) × Perhaps L front o

  sound_perhaps : (ts : List T) (o : Option A) (rest : List T) → reads_perhaps ts ≡ got o rest → Sound ts o rest
  sound_perhaps ts o rest q = go (chosen (next_in kind b ts) (giving (λ v. Some v) (r ts)) (got None ts) (got o rest) q)
    where
      go : ((next_in kind b ts ≡ true) × (giving (λ v. Some v) (r ts) ≡ got o rest)) ⊎ ((next_in kind b ts ≡ false) × (got None ts ≡ got o rest)) → Sound ts o rest
      go (inl p) =
          let y = giving_got (λ (v : A). Some v) (r ts) o rest p.1 in
          let x = R.sound ts y.0 rest y.1 in
          (x.0, x.1, subst (Perhaps L x.0) y.2 x.2)
      go (inr p) =
          let z : got None ts ≡ got o rest = p.1 in
          let e : None ≡ o = cc in
          let e' : ts ≡ rest = cc in
          ([], e', subst (Perhaps L []) e refl)

  complete_perhaps : (front : List T) (o : Option A) (rest : List T) → Perhaps L front o → next_in kind (b ++ g) rest ≡ false → reads_perhaps (front ++ rest) ≡ got o rest
  complete_perhaps front None rest l q =
      ap (λ z. reads_perhaps (z ++ rest)) l ∙ ap (λ z. cond z (giving (λ v. Some v) (r rest)) (got None rest)) (next_none kind b g rest q).0
  complete_perhaps front (Some v) rest l q =
      ap (λ z. cond z (giving (λ w. Some w) (r (front ++ rest))) (got None (front ++ rest))) (opens kind L r b g d R never front rest v l)
      ∙ ap (λ z. giving (λ w. Some w) z) (R.complete front v rest l (next_none kind b g rest q).1)

  viable_perhaps : (ts rest : List T) → reads_perhaps ts ≡ stuck rest → (front : List T) × (ts ≡ front ++ rest) × (more : List T) × (o : Option A) × Perhaps L (front ++ more) o
  viable_perhaps ts rest q = go (chosen (next_in kind b ts) (giving (λ v. Some v) (r ts)) (got None ts) (stuck rest) q)
    where
      go : ((next_in kind b ts ≡ true) × (giving (λ v. Some v) (r ts) ≡ stuck rest)) ⊎ ((next_in kind b ts ≡ false) × (got_as (Option A) None ts ≡ stuck rest)) → (front : List T) × (ts ≡ front ++ rest) × (more : List T) × (o : Option A) × Perhaps L (front ++ more) o
      go (inl p) = let x = R.viable ts rest (giving_stuck (λ (v : A). Some v) (r ts) rest p.1) in (x.0, x.1, x.2, Some x.3, x.4)
      go (inr p) = let z : got_as (Option A) None ts ≡ stuck rest = p.1 in cc

  begins_perhaps : (t : T) (ts : List T) (o : Option A) → Perhaps L (t ∷ ts) o → has b (kind t) ≡ true
  begins_perhaps t ts None l = let z : t ∷ ts ≡ [] = l in cc
  begins_perhaps t ts (Some v) l = R.begins t ts v l

  pub right_perhaps : Right kind (Perhaps L) reads_perhaps b (b ++ g) true
  right_perhaps = record {
    sound = sound_perhaps;
    complete = complete_perhaps;
    viable = viable_perhaps;
    begins = begins_perhaps;
    filled = λ v l. refl;
    some = ([], None, refl);
  }

-- The same with the kinds that it begins with.

pub right_begins : (T A : Type 0) (kind : T → ℕ) (L : List T → A → Type 0) (r : List T → Reading T A) (b g : List ℕ) (d : Bool) (R : Right kind L r b g d) (ks : List ℕ) → within b ks ≡ true → Right kind L r ks g d
right_begins T A kind L r b g d R ks w = record {
  sound = R.sound;
  complete = R.complete;
  viable = R.viable;
  begins = λ t ts v l. has-within b ks (kind t) w (R.begins t ts v l);
  filled = R.filled;
  some = R.some;
}

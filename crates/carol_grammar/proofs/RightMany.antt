use Rattle.std.proofs.Common.{◌≡◌, ℕ, zero, suc, Bool, true, false, cond, List, [], ◌∷◌, ◌++◌, refl, sym, ◌∙◌, ap, subst, ◌⊎◌, inl, inr, append_assoc}
use Rattle.std.proofs.lemmas.List.{append-nil}
use Rattle.carol_grammar.specs.Sets.{has, apart}
use Rattle.carol_grammar.specs.Sentence.{Repeats}
use Rattle.carol_grammar.specs.Reading.{Reading, onward, giving, next_in, read_many}
use Rattle.carol_grammar.specs.Reading.Reading.{got, stuck}
use Rattle.carol_grammar.proofs.SetLemmas.{apart_left, next_none}
use Rattle.carol_grammar.proofs.ReadingLemmas.{onward_got, onward_stuck, giving_got, giving_stuck, got_as, chosen, split_join}
use Rattle.carol_grammar.proofs.Right.{Right, opens}

module _ (T A : Type 0) (kind : T → ℕ) (L : List T → A → Type 0) (r : List T → Reading T A) (b g : List ℕ) (d : Bool) (R : Right kind L r b g d) (never : d ≡ false) (far : apart g b ≡ true) where
  abbrev more_ : List T → Bool
  more_ ts = next_in kind b ts

  abbrev then_ : ℕ → A → List T → Reading T (List A)
  then_ n v rest = giving (λ vs. v ∷ vs) (read_many n more_ r rest)

  abbrev Sound : ℕ → List T → List A → List T → Type 0
  Sound n ts vs rest = (front : List T) × (ts ≡ front ++ rest) × Repeats n L front vs

  sound_none : (n : ℕ) (ts : List T) (vs : List A) (rest : List T) → got [] ts ≡ got vs rest → Sound n ts vs rest
  sound_none n ts vs rest q =
      let e : [] ≡ vs = cc in
      let e' : ts ≡ rest = cc in
      ([], e', subst (Repeats n L []) e refl)

  sound_many : (n : ℕ) (ts : List T) (vs : List A) (rest : List T) → read_many n more_ r ts ≡ got vs rest → Sound n ts vs rest
  sound_many zero ts vs rest q = sound_none zero ts vs rest q
  sound_many (suc n) ts vs rest q = go (sound_many n) (chosen (more_ ts) (onward (r ts) (then_ n)) (got [] ts) (got vs rest) q)
    where
      go : ((us : List T) (ws : List A) (end : List T) → read_many n more_ r us ≡ got ws end → Sound n us ws end) → ((more_ ts ≡ true) × (onward (r ts) (then_ n) ≡ got vs rest)) ⊎ ((more_ ts ≡ false) × (got [] ts ≡ got vs rest)) → Sound (suc n) ts vs rest
      go below (inl p) =
          let o = onward_got (r ts) (then_ n) vs rest p.1 in
          let o' = giving_got (λ (ws : List A). o.0 ∷ ws) (read_many n more_ r o.1) vs rest o.3 in
          let x = R.sound ts o.0 o.1 o.2 in
          let y = below o.1 o'.0 rest o'.1 in
          let rep : Repeats (suc n) L (x.0 ++ y.0) (o.0 ∷ o'.0) = (x.0, y.0, refl, x.2, y.2) in
          (x.0 ++ y.0, split_join ts x.0 o.1 y.0 rest x.1 y.1, subst (Repeats (suc n) L (x.0 ++ y.0)) o'.2 rep)
      go below (inr p) = sound_none (suc n) ts vs rest p.1

  begins_many : (n : ℕ) (t : T) (ts : List T) (vs : List A) → Repeats n L (t ∷ ts) vs → has b (kind t) ≡ true
  begins_many n t ts [] rep = cc
  begins_many zero t ts (v ∷ vs) rep = absurd rep
  begins_many (suc n) t ts (v ∷ vs) rep =
      let k : next_in kind b (rep.0 ++ rep.1) ≡ true = opens kind L r b g d R never rep.0 rep.1 v rep.3 in
      subst (λ z. next_in kind b z ≡ true) (sym rep.2) k

  between : (n : ℕ) (y : List T) (vs : List A) (rest : List T) → Repeats n L y vs → next_in kind (b ++ g) rest ≡ false → next_in kind g (y ++ rest) ≡ false
  between n [] vs rest rep q = (next_none kind b g rest q).1
  between n (t ∷ y) vs rest rep q = apart_left g b (kind t) far (begins_many n t y vs rep)

  complete_many : (n : ℕ) (front : List T) (vs : List A) (rest : List T) → Repeats n L front vs → next_in kind (b ++ g) rest ≡ false → read_many n more_ r (front ++ rest) ≡ got vs rest
  complete_many zero front [] rest rep q = ap (λ z. got [] (z ++ rest)) rep
  complete_many (suc n) front [] rest rep q =
      let k = next_none kind b g rest q in
      ap (λ z. read_many (suc n) more_ r (z ++ rest)) rep ∙ ap (λ z. cond z (onward (r rest) (then_ n)) (got [] rest)) k.0
  complete_many zero front (v ∷ vs) rest rep q = absurd rep
  complete_many (suc n) front (v ∷ vs) rest rep q =
      let open_ : next_in kind b (rep.0 ++ (rep.1 ++ rest)) ≡ true = opens kind L r b g d R never rep.0 (rep.1 ++ rest) v rep.3 in
      let one : r (rep.0 ++ (rep.1 ++ rest)) ≡ got v (rep.1 ++ rest) = R.complete rep.0 v (rep.1 ++ rest) rep.3 (between n rep.1 vs rest rep.4 q) in
      let two : read_many n more_ r (rep.1 ++ rest) ≡ got vs rest = complete_many n rep.1 vs rest rep.4 q in
      ap (λ z. read_many (suc n) more_ r (z ++ rest)) rep.2 ∙ ap (read_many (suc n) more_ r) (append_assoc rep.0 rep.1 rest)
      ∙ ap (λ z. cond z (onward (r (rep.0 ++ (rep.1 ++ rest))) (then_ n)) (got [] (rep.0 ++ (rep.1 ++ rest)))) open_
      ∙ ap (λ z. onward z (then_ n)) one ∙ ap (λ z. giving (λ ws. v ∷ ws) z) two

  abbrev Viable : ℕ → List T → List T → Type 0
  Viable n ts rest = (front : List T) × (ts ≡ front ++ rest) × (more : List T) × (vs : List A) × Repeats n L (front ++ more) vs

  viable_many : (n : ℕ) (ts rest : List T) → read_many n more_ r ts ≡ stuck rest → Viable n ts rest
  viable_many zero ts rest q = cc
  viable_many (suc n) ts rest q = go (viable_many n) (chosen (more_ ts) (onward (r ts) (then_ n)) (got [] ts) (stuck rest) q)
    where
      inner : ((us end : List T) → read_many n more_ r us ≡ stuck end → Viable n us end) → (r ts ≡ stuck rest) ⊎ ((v : A) × (mid : List T) × (r ts ≡ got v mid) × (then_ n v mid ≡ stuck rest)) → Viable (suc n) ts rest
      inner below (inl p) =
          let x = R.viable ts rest p in
          (x.0, x.1, x.2, x.3 ∷ [], (x.0 ++ x.2, [], sym (append-nil (x.0 ++ x.2)), x.4, refl))
      inner below (inr p) =
          let x = R.sound ts p.0 p.1 p.2 in
          let y = below p.1 rest (giving_stuck (λ (ws : List A). p.0 ∷ ws) (read_many n more_ r p.1) rest p.3) in
          (x.0 ++ y.0, split_join ts x.0 p.1 y.0 rest x.1 y.1, y.2, p.0 ∷ y.3, (x.0, y.0 ++ y.2, append_assoc x.0 y.0 y.2, x.2, y.4))

      go : ((us end : List T) → read_many n more_ r us ≡ stuck end → Viable n us end) → ((more_ ts ≡ true) × (onward (r ts) (then_ n) ≡ stuck rest)) ⊎ ((more_ ts ≡ false) × (got_as (List A) [] ts ≡ stuck rest)) → Viable (suc n) ts rest
      go below (inl p) = inner below (onward_stuck (r ts) (then_ n) rest p.1)
      go below (inr p) = let z : got_as (List A) [] ts ≡ stuck rest = p.1 in cc

  pub right_many : (n : ℕ) → Right kind (Repeats n L) (read_many n more_ r) b (b ++ g) true
  right_many n = record {
    sound = sound_many n;
    complete = complete_many n;
    viable = viable_many n;
    begins = begins_many n;
    filled = λ vs l. refl;
    some = ([], [], refl);
  }

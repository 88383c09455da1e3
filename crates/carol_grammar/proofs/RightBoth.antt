use Rattle.std.proofs.Common.{◌≡◌, ℕ, Bool, true, false, cond, List, [], ◌∷◌, ◌++◌, refl, sym, ◌∙◌, ap, subst, ◌⊎◌, inl, inr, append_assoc}
use Rattle.carol_grammar.specs.Sets.{has, apart}
use Rattle.carol_grammar.specs.Reading.{Reading, onward, giving, next_in}
use Rattle.carol_grammar.specs.Reading.Reading.{got, stuck}
use Rattle.carol_grammar.proofs.SetLemmas.{has-left, has-right, apart_left, next_none}
use Rattle.carol_grammar.proofs.ReadingLemmas.{onward_got, onward_stuck, giving_got, giving_stuck, split_join, append_empty}
use Rattle.carol_grammar.proofs.Right.{Right}

module _ (T A B : Type 0) (kind : T → ℕ) (L : List T → A → Type 0) (M : List T → B → Type 0) (r : List T → Reading T A) (s : List T → Reading T B) (b g c h : List ℕ) (d e : Bool) (R : Right kind L r b g d) (S : Right kind M s c h e) (far : apart g c ≡ true) where
  abbrev Both : List T → A × B → Type 0
  Both ts v = (x : List T) × (y : List T) × (ts ≡ x ++ y) × L x v.0 × M y v.1

  abbrev then_ : A → List T → Reading T (A × B)
  then_ v rest = giving (λ w. (v, w)) (s rest)

  abbrev reads_both : List T → Reading T (A × B)
  reads_both ts = onward (r ts) then_

  sound_both : (ts : List T) (v : A × B) (rest : List T) → reads_both ts ≡ got v rest → (front : List T) × (ts ≡ front ++ rest) × Both front v
  sound_both ts v rest q =
      let p = onward_got (r ts) then_ v rest q in
      let p' = giving_got (λ (w : B). (p.0, w)) (s p.1) v rest p.3 in
      let x = R.sound ts p.0 p.1 p.2 in
      let y = S.sound p.1 p'.0 rest p'.1 in
      let both : Both (x.0 ++ y.0) (p.0, p'.0) = (x.0, y.0, refl, x.2, y.2) in
      (x.0 ++ y.0, split_join ts x.0 p.1 y.0 rest x.1 y.1, subst (Both (x.0 ++ y.0)) p'.2 both)

  between : (y : List T) (w : B) (rest : List T) → M y w → next_in kind (h ++ cond e g []) rest ≡ false → next_in kind g (y ++ rest) ≡ false
  between [] w rest m q =
      let f : e ≡ true = S.filled w m in
      let k = next_none kind h (cond e g []) rest q in
      subst (λ z. next_in kind (cond z g []) rest ≡ false) f k.1
  between (t ∷ y) w rest m q = apart_left g c (kind t) far (S.begins t y w m)

  complete_both : (front : List T) (v : A × B) (rest : List T) → Both front v → next_in kind (h ++ cond e g []) rest ≡ false → reads_both (front ++ rest) ≡ got v rest
  complete_both front v rest l q =
      let k = next_none kind h (cond e g []) rest q in
      let one : r (l.0 ++ (l.1 ++ rest)) ≡ got v.0 (l.1 ++ rest) = R.complete l.0 v.0 (l.1 ++ rest) l.3 (between l.1 v.1 rest l.4 q) in
      let two : s (l.1 ++ rest) ≡ got v.1 rest = S.complete l.1 v.1 rest l.4 k.0 in
      ap (λ z. reads_both (z ++ rest)) l.2 ∙ ap reads_both (append_assoc l.0 l.1 rest) ∙ ap (λ z. onward z then_) one ∙ ap (λ z. giving (λ w. (v.0, w)) z) two

  abbrev Viable : List T → List T → Type 0
  Viable ts rest = (front : List T) × (ts ≡ front ++ rest) × (more : List T) × (v : A × B) × Both (front ++ more) v

  viable_both : (ts rest : List T) → reads_both ts ≡ stuck rest → Viable ts rest
  viable_both ts rest q = go (onward_stuck (r ts) then_ rest q)
    where
      go : (r ts ≡ stuck rest) ⊎ ((v : A) × (mid : List T) × (r ts ≡ got v mid) × (then_ v mid ≡ stuck rest)) → Viable ts rest
      go (inl p) =
          let x = R.viable ts rest p in
          let y = S.some in
          (x.0, x.1, x.2 ++ y.0, (x.3, y.1), (x.0 ++ x.2, y.0, sym (append_assoc x.0 x.2 y.0), x.4, y.2))
      go (inr p) =
          let x = R.sound ts p.0 p.1 p.2 in
          let y = S.viable p.1 rest (giving_stuck (λ (w : B). (p.0, w)) (s p.1) rest p.3) in
          (x.0 ++ y.0, split_join ts x.0 p.1 y.0 rest x.1 y.1, y.2, (p.0, y.3), (x.0, y.0 ++ y.2, append_assoc x.0 y.0 y.2, x.2, y.4))

  begins_both : (t : T) (ts x y : List T) (v : A) (w : B) → t ∷ ts ≡ x ++ y → L x v → M y w → has (b ++ cond d c []) (kind t) ≡ true
  begins_both t ts [] y v w q l m =
      let f : d ≡ true = R.filled v l in
      let k : has c (kind t) ≡ true = S.begins t ts w (subst (λ z. M z w) (sym q) m) in
      has-right b (cond d c []) (kind t) (subst (λ z. has (cond z c []) (kind t) ≡ true) (sym f) k)
  begins_both t ts (u ∷ x) y v w q l m =
      let f : t ≡ u = cc in
      has-left b (cond d c []) (kind t) (ap (λ z. has b (kind z)) f ∙ R.begins u x v l)

  filled_both : (v : A × B) → Both [] v → cond d e false ≡ true
  filled_both v l =
      let k = append_empty l.0 l.1 l.2 in
      let f : d ≡ true = R.filled v.0 (subst (λ z. L z v.0) k.0 l.3) in
      let f' : e ≡ true = S.filled v.1 (subst (λ z. M z v.1) k.1 l.4) in
      ap (λ z. cond z e false) f ∙ f'

  pub right_both : Right kind Both reads_both (b ++ cond d c []) (h ++ cond e g []) (cond d e false)
  right_both = record {
    sound = sound_both;
    complete = complete_both;
    viable = viable_both;
    begins = λ t ts v l. begins_both t ts l.0 l.1 v.0 v.1 l.2 l.3 l.4;
    filled = filled_both;
    some = (R.some.0 ++ S.some.0, (R.some.1, S.some.1), (R.some.0, S.some.0, refl, R.some.2, S.some.2));
  }

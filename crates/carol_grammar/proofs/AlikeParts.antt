use Rattle.std.proofs.Common.{◌≡◌, ℕ, zero, suc, ◌≤◌, ◌<◌, Bool, true, false, cond, List, [], ◌∷◌, ◌++◌, length, refl, sym, ap, inl, inr, arith}
use Rattle.std.specs.Prelude.{Some, None}
use Rattle.carol_grammar.specs.Sets.{has, apart}
use Rattle.carol_grammar.specs.Reading.{Reading, onward, giving, next_in, read_token, read_many}
use Rattle.carol_grammar.specs.Reading.Reading.{got, stuck}
use Rattle.carol_grammar.proofs.Right.{Right}
use Rattle.carol_grammar.proofs.RightMany.{right_many}
use Rattle.carol_grammar.proofs.Alike.{SameNext, Like, Alike, Ends, like_along, like_giving, like_onward, ends_right, ends_giving, shorter, same_next}

like_cond : {T A : Type 0} (b : Bool) (x y : List T) (r r' s s' : Reading T A) → Like x y r r' → Like x y s s' → Like x y (cond b r s) (cond b r' s')
like_cond true x y r r' s s' l m = l
like_cond false x y r r' s s' l m = m

-- a choice by the next token
like_choice : {T A : Type 0} (kind : T → ℕ) (ks : List ℕ) (p x y : List T) (r r' s s' : Reading T A) → SameNext x y → Like x y r r' → Like x y s s' → Like x y (cond (next_in kind ks (p ++ x)) r s) (cond (next_in kind ks (p ++ y)) r' s')
like_choice kind ks p x y r r' s s' h l m =
    like_along x y (cond (next_in kind ks (p ++ x)) r s) (cond (next_in kind ks (p ++ x)) r s) (cond (next_in kind ks (p ++ y)) r' s') (cond (next_in kind ks (p ++ x)) r' s') refl (ap (λ z. cond z r' s') (same_next kind ks p x y h))
    (like_cond (next_in kind ks (p ++ x)) x y r r' s s' l m)

pub alike_token : {T A : Type 0} (kind : T → ℕ) (ks : List ℕ) (f : T → A) (k : ℕ) → Alike k (read_token kind ks f) (read_token kind ks f)
alike_token kind ks f k (t ∷ p) x y h same =
    like_cond (has ks (kind t)) x y (got (f t) (p ++ x)) (got (f t) (p ++ y)) (stuck (t ∷ (p ++ x))) (stuck (t ∷ (p ++ y))) (inl (f t, p, refl, refl)) (inr (inl (t ∷ p, refl, refl)))
alike_token kind ks f k [] [] [] h same = inr (inl ([], refl, refl))
alike_token kind ks f k [] [] (t ∷ y) h same = absurd same
alike_token kind ks f k [] (s ∷ x) [] h same = absurd same
alike_token kind ks f k [] (s ∷ x) (t ∷ y) h same =
    like_along (s ∷ x) (t ∷ y) (cond (has ks (kind s)) (got (f s) x) (stuck (s ∷ x))) (cond (has ks (kind s)) (got (f s) x) (stuck (s ∷ x))) (cond (has ks (kind t)) (got (f t) y) (stuck (t ∷ y))) (cond (has ks (kind s)) (got (f t) y) (stuck (t ∷ y))) refl (ap (λ z. cond (has ks (kind z)) (got (f t) y) (stuck (t ∷ y))) (sym same))
    (like_cond (has ks (kind s)) (s ∷ x) (t ∷ y) (got (f s) x) (got (f t) y) (stuck (s ∷ x)) (stuck (t ∷ y)) (inr (inr ((s, [], refl), (t, [], refl)))) (inr (inl ([], refl, refl))))

pub alike_both : {T A B : Type 0} (k j : ℕ) (r r' : List T → Reading T A) (s s' : List T → Reading T B) → Ends s → Ends s' → ((p x q : List T) (v : A) → r (p ++ x) ≡ got v (q ++ x) → length p < k → length q < j) → Alike k r r' → Alike j s s' → Alike {A = A × B} k (λ ts. onward (r ts) (λ v rest. giving (λ w. (v, w)) (s rest))) (λ ts. onward (r' ts) (λ v rest. giving (λ w. (v, w)) (s' rest)))
alike_both {T} {A} {B} k j r r' s s' es es' reach ar as_ p x y h same =
    like_onward x y (r (p ++ x)) (r' (p ++ y)) (λ v rest. giving (λ w. (v, w)) (s rest)) (λ v rest. giving (λ w. (v, w)) (s' rest))
    (λ v. ends_giving (λ (w : B). (v, w)) s es) (λ v. ends_giving (λ (w : B). (v, w)) s' es')
    (λ v q e. like_giving (λ (w : B). (v, w)) x y (s (q ++ x)) (s' (q ++ y)) (as_ q x y (reach p x q v e h) same))
    (ar p x y h same)

pub alike_giving : {T A B : Type 0} (f : A → B) (k : ℕ) (r r' : List T → Reading T A) → Alike k r r' → Alike k (λ ts. giving f (r ts)) (λ ts. giving f (r' ts))
alike_giving f k r r' ar p x y h same = like_giving f x y (r (p ++ x)) (r' (p ++ y)) (ar p x y h same)

pub alike_either : {T A : Type 0} (kind : T → ℕ) (ks : List ℕ) (k : ℕ) (r r' s s' : List T → Reading T A) → Alike k r r' → Alike k s s' → Alike k (λ ts. cond (next_in kind ks ts) (r ts) (s ts)) (λ ts. cond (next_in kind ks ts) (r' ts) (s' ts))
alike_either kind ks k r r' s s' ar as_ p x y h same =
    like_choice kind ks p x y (r (p ++ x)) (r' (p ++ y)) (s (p ++ x)) (s' (p ++ y)) same (ar p x y h same) (as_ p x y h same)

pub alike_perhaps : {T A : Type 0} (kind : T → ℕ) (ks : List ℕ) (k : ℕ) (r r' : List T → Reading T A) → Alike k r r' → Alike k (λ ts. cond (next_in kind ks ts) (giving (λ v. Some v) (r ts)) (got None ts)) (λ ts. cond (next_in kind ks ts) (giving (λ v. Some v) (r' ts)) (got None ts))
alike_perhaps {T} {A} kind ks k r r' ar p x y h same =
    like_choice kind ks p x y (giving (λ v. Some v) (r (p ++ x))) (giving (λ v. Some v) (r' (p ++ y))) (got None (p ++ x)) (got None (p ++ y)) same
    (like_giving (λ (v : A). Some v) x y (r (p ++ x)) (r' (p ++ y)) (ar p x y h same))
    (inl (None, p, refl, refl))

module _ (T A : Type 0) (kind : T → ℕ) (L L' : List T → A → Type 0) (r r' : List T → Reading T A) (b g : List ℕ) (d : Bool) (R : Right kind L r b g d) (R' : Right kind L' r' b g d) (never : d ≡ false) (far : apart g b ≡ true) (top : ℕ) (items : Alike top r r') where
  pub alike_many : (k n n' : ℕ) → k ≤ top → k ≤ n → k ≤ n' → Alike k (read_many n (next_in kind b) r) (read_many n' (next_in kind b) r')
  alike_many zero n n' a c c' p x y h same = absurd (omega arith)
  alike_many (suc k) zero n' a c c' p x y h same = absurd (omega arith)
  alike_many (suc k) (suc n) zero a c c' p x y h same = absurd (omega arith)
  alike_many (suc k) (suc n) (suc n') a c c' p x y h same =
      like_choice kind b p x y _ _ (got [] (p ++ x)) (got [] (p ++ y)) same
      (like_onward x y (r (p ++ x)) (r' (p ++ y)) (λ v rest. giving (λ vs. v ∷ vs) (read_many n (next_in kind b) r rest)) (λ v rest. giving (λ vs. v ∷ vs) (read_many n' (next_in kind b) r' rest))
      (λ v. ends_giving (λ (vs : List A). v ∷ vs) (read_many n (next_in kind b) r) (ends_right kind _ (read_many n (next_in kind b) r) _ _ _ (right_many T A kind L r b g d R never far n)))
      (λ v. ends_giving (λ (vs : List A). v ∷ vs) (read_many n' (next_in kind b) r') (ends_right kind _ (read_many n' (next_in kind b) r') _ _ _ (right_many T A kind L' r' b g d R' never far n')))
      (λ v q e. let z : length q < length p = shorter kind L r b g d R never p x q v e in like_giving (λ (vs : List A). v ∷ vs) x y (read_many n (next_in kind b) r (q ++ x)) (read_many n' (next_in kind b) r' (q ++ y)) (alike_many k n n' (omega arith) (omega arith) (omega arith) q x y (omega arith) same))
      (items p x y (omega arith) same))
      (inl ([], p, refl, refl))

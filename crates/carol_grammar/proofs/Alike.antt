use Rattle.std.proofs.Common.{◌≡◌, ℕ, ◌≤◌, ◌<◌, Bool, true, false, List, [], ◌∷◌, ◌++◌, length, refl, sym, ◌∙◌, ap, subst, ◌⊎◌, inl, inr, arith, length-append}
use Rattle.carol_grammar.specs.Reading.{Reading, onward, giving, next_in}
use Rattle.carol_grammar.specs.Reading.Reading.{got, stuck}
use Rattle.carol_grammar.proofs.ReadingLemmas.{split_join}
use Rattle.carol_grammar.proofs.Right.{Right}

-- Two readings of lists that share a front and the token after it: both find the same and stop at
-- the same place, or both went beyond that token.

abbrev pub left : {T A : Type 0} → Reading T A → List T
left (got v rest) = rest
left (stuck rest) = rest

-- the same token stands next in both, or none
abbrev pub SameNext : {T : Type 0} → List T → List T → Type 0
SameNext [] [] = Unit {0}
SameNext [] (t ∷ y) = ⊥
SameNext (s ∷ x) [] = ⊥
SameNext (s ∷ x) (t ∷ y) = s ≡ t

abbrev pub Past : {T A : Type 0} → List T → Reading T A → Type 0
Past x r = (t : _) × (q : List _) × (x ≡ t ∷ (q ++ left r))

abbrev pub BothGot : {T A : Type 0} → List T → List T → Reading T A → Reading T A → Type 0
BothGot x y r s = (v : _) × (q : List _) × (r ≡ got v (q ++ x)) × (s ≡ got v (q ++ y))

abbrev pub BothStuck : {T A : Type 0} → List T → List T → Reading T A → Reading T A → Type 0
BothStuck x y r s = (q : List _) × (r ≡ stuck (q ++ x)) × (s ≡ stuck (q ++ y))

abbrev pub Like : {T A : Type 0} → List T → List T → Reading T A → Reading T A → Type 0
Like x y r s = BothGot x y r s ⊎ (BothStuck x y r s ⊎ (Past x r × Past y s))

-- so it is for each front shorter than k
abbrev pub Alike : {T A : Type 0} → ℕ → (List T → Reading T A) → (List T → Reading T A) → Type 0
Alike k r s = (p x y : List _) → length p < k → SameNext x y → Like x y (r (p ++ x)) (s (p ++ y))

pub like_along : {T A : Type 0} (x y : List T) (r r' s s' : Reading T A) → r ≡ r' → s ≡ s' → Like x y r' s' → Like x y r s
like_along x y r r' s s' e f l =
    subst (λ z. Like x y z s) (sym e) (subst (λ z. Like x y r' z) (sym f) l)

left_giving : {T A B : Type 0} (f : A → B) (r : Reading T A) → left r ≡ left (giving f r)
left_giving f (got v rest) = refl
left_giving f (stuck rest) = refl

past_giving : {T A B : Type 0} (f : A → B) (x : List T) (r : Reading T A) → Past x r → Past x (giving f r)
past_giving f x r p = (p.0, p.1, p.2 ∙ ap (λ z. p.0 ∷ (p.1 ++ z)) (left_giving f r))

pub like_giving : {T A B : Type 0} (f : A → B) (x y : List T) (r s : Reading T A) → Like x y r s → Like x y (giving f r) (giving f s)
like_giving f x y r s (inl l) = inl (f l.0, l.1, ap (λ z. giving f z) l.2, ap (λ z. giving f z) l.3)
like_giving f x y r s (inr (inl l)) = inr (inl (l.0, ap (λ z. giving f z) l.1, ap (λ z. giving f z) l.2))
like_giving f x y r s (inr (inr l)) = inr (inr (past_giving f x r l.0, past_giving f y s l.1))

-- what is left is the end of what was read
abbrev pub Ends : {T A : Type 0} → (List T → Reading T A) → Type 0
Ends r = (ts : List _) → (front : List _) × (ts ≡ front ++ left (r ts))

pub ends_right : {T A : Type 0} (kind : T → ℕ) (L : List T → A → Type 0) (r : List T → Reading T A) (b g : List ℕ) (d : Bool) → Right kind L r b g d → Ends r
ends_right kind L r b g d R ts = go (r ts) refl
  where
    go : (z : Reading _ _) → r ts ≡ z → (front : List _) × (ts ≡ front ++ left z)
    go (got v rest) e = let x = R.sound ts v rest e in (x.0, x.1)
    go (stuck rest) e = let x = R.viable ts rest e in (x.0, x.1)

pub ends_giving : {T A B : Type 0} (f : A → B) (r : List T → Reading T A) → Ends r → Ends (λ ts. giving f (r ts))
ends_giving f r h ts = let x = h ts in (x.0, x.1 ∙ ap (λ z. x.0 ++ z) (left_giving f (r ts)))

past_onward : {T A B : Type 0} (x : List T) (r : Reading T A) (next : A → List T → Reading T B) → ((v : A) → Ends (next v)) → Past x r → Past x (onward r next)
past_onward x (got v rest) next h p =
    let e = h v rest in
    (p.0, p.1 ++ e.0, p.2 ∙ ap (λ z. p.0 ∷ z) (split_join (p.1 ++ rest) p.1 rest e.0 (left (next v rest)) refl e.1))
past_onward x (stuck rest) next h p = p

pub like_onward : {T A B : Type 0} (x y : List T) (r s : Reading T A) (next after : A → List T → Reading T B) → ((v : A) → Ends (next v)) → ((v : A) → Ends (after v)) → ((v : A) (q : List T) → r ≡ got v (q ++ x) → Like x y (next v (q ++ x)) (after v (q ++ y))) → Like x y r s → Like x y (onward r next) (onward s after)
like_onward x y r s next after h k f (inl l) =
    like_along x y (onward r next) (next l.0 (l.1 ++ x)) (onward s after) (after l.0 (l.1 ++ y)) (ap (λ z. onward z next) l.2) (ap (λ z. onward z after) l.3) (f l.0 l.1 l.2)
like_onward x y r s next after h k f (inr (inl l)) = inr (inl (l.0, ap (λ z. onward z next) l.1, ap (λ z. onward z after) l.2))
like_onward x y r s next after h k f (inr (inr l)) = inr (inr (past_onward x r next h l.0, past_onward y s after k l.1))

-- what is left after a value is no longer than before it, and shorter after one that isn't empty
pub no_longer : {T A : Type 0} (kind : T → ℕ) (L : List T → A → Type 0) (r : List T → Reading T A) (b g : List ℕ) (d : Bool) → Right kind L r b g d → (p x q : List T) (v : A) → r (p ++ x) ≡ got v (q ++ x) → length q ≤ length p
no_longer {T} kind L r b g d R p x q v e =
    let s = R.sound (p ++ x) v (q ++ x) e in
    let n : length (p ++ x) ≡ length (s.0 ++ (q ++ x)) = ap (λ (z : List T). length z) s.1 in
    omega (arith, n, length-append p x, length-append s.0 (q ++ x), length-append q x)

pub shorter : {T A : Type 0} (kind : T → ℕ) (L : List T → A → Type 0) (r : List T → Reading T A) (b g : List ℕ) (d : Bool) → Right kind L r b g d → d ≡ false → (p x q : List T) (v : A) → r (p ++ x) ≡ got v (q ++ x) → length q < length p
shorter {T} {A} kind L r b g d R never p x q v e = go s.0 s.1 s.2
  where
    s : (front : List T) × (p ++ x ≡ front ++ (q ++ x)) × L front v
    s = R.sound (p ++ x) v (q ++ x) e

    go : (front : List T) → p ++ x ≡ front ++ (q ++ x) → L front v → length q < length p
    go [] f l = let z : d ≡ true = R.filled v l in absurd cc
    go (t ∷ front) f l =
        let n : length (p ++ x) ≡ length (t ∷ (front ++ (q ++ x))) = ap (λ (z : List T). length z) f in
        omega (arith, n, length-append p x, length-append front (q ++ x), length-append q x)

-- a test of the next token
pub same_next : {T : Type 0} (kind : T → ℕ) (ks : List ℕ) (p x y : List T) → SameNext x y → next_in kind ks (p ++ y) ≡ next_in kind ks (p ++ x)
same_next kind ks (t ∷ p) x y h = refl
same_next kind ks [] [] [] h = refl
same_next kind ks [] [] (t ∷ y) h = absurd h
same_next kind ks [] (s ∷ x) [] h = absurd h
same_next kind ks [] (s ∷ x) (t ∷ y) h = ap (λ z. Rattle.carol_grammar.specs.Sets.has ks (kind z)) (sym h)

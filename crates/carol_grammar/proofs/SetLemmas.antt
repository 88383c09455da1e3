use Rattle.std.proofs.Common.{◌≡◌, ℕ, Bool, true, false, not, ◌&&◌, ◌||◌, eqb, List, [], ◌∷◌, ◌++◌, refl, sym, ◌∙◌, ap}
use Rattle.std.proofs.lemmas.Bool.{eqb-true}
use Rattle.carol_grammar.specs.Sets.{has, within, apart}
use Rattle.carol_grammar.specs.Reading.{next_in}

-- Tests.

pub and_left : (a b : Bool) → (a && b) ≡ true → a ≡ true
and_left true b h = refl
and_left false b h = h

pub and_right : (a b : Bool) → (a && b) ≡ true → b ≡ true
and_right true b h = h
and_right false b h = cc

or_left : (a b : Bool) → a ≡ true → (a || b) ≡ true
or_left true b h = refl
or_left false b h = cc

or_right : (a b : Bool) → b ≡ true → (a || b) ≡ true
or_right true b h = refl
or_right false b h = h

pub or_false : (a b : Bool) → (a || b) ≡ false → (a ≡ false) × (b ≡ false)
or_false true b h = cc
or_false false b h = (refl, h)

pub not_true : (a : Bool) → not a ≡ true → a ≡ false
not_true true h = cc
not_true false h = refl

pub true_false : (a : Bool) → (a ≡ true → a ≡ false) → a ≡ false
true_false true h = h refl
true_false false h = refl

-- Sets of kinds.

has-append : (xs ys : List ℕ) (k : ℕ) → has (xs ++ ys) k ≡ (has xs k || has ys k)
has-append [] ys k = refl
has-append (x ∷ xs) ys k = step (eqb k x) (has-append xs ys k)
  where
    step : (b : Bool) → has (xs ++ ys) k ≡ (has xs k || has ys k) → (b || has (xs ++ ys) k) ≡ ((b || has xs k) || has ys k)
    step true h = refl
    step false h = h

pub has-left : (xs ys : List ℕ) (k : ℕ) → has xs k ≡ true → has (xs ++ ys) k ≡ true
has-left xs ys k h = has-append xs ys k ∙ or_left _ _ h

pub has-right : (xs ys : List ℕ) (k : ℕ) → has ys k ≡ true → has (xs ++ ys) k ≡ true
has-right xs ys k h = has-append xs ys k ∙ or_right _ _ h

-- a member is the first, or one of the others
member : (P : Type 0) (k x : ℕ) (b c : Bool) → eqb k x ≡ b → (b || c) ≡ true → (k ≡ x → P) → (c ≡ true → P) → P
member P k x true c e h here there = here (eqb-true k x e)
member P k x false c e h here there = there h

-- what is in a set that is within another is in that
pub has-within : (xs ys : List ℕ) (k : ℕ) → within xs ys ≡ true → has xs k ≡ true → has ys k ≡ true
has-within [] ys k w h = cc
has-within (x ∷ xs) ys k w h =
    member (has ys k ≡ true) k x (eqb k x) (has xs k) refl h
    (λ e. ap (has ys) e ∙ and_left _ _ w)
    (λ h'. has-within xs ys k (and_right (has ys x) _ w) h')

-- sets that are apart share nothing
pub apart_right : (xs ys : List ℕ) (k : ℕ) → apart xs ys ≡ true → has xs k ≡ true → has ys k ≡ false
apart_right [] ys k a h = cc
apart_right (x ∷ xs) ys k a h =
    member (has ys k ≡ false) k x (eqb k x) (has xs k) refl h
    (λ e. ap (has ys) e ∙ not_true _ (and_left _ _ a))
    (λ h'. apart_right xs ys k (and_right (not (has ys x)) _ a) h')

pub apart_left : (xs ys : List ℕ) (k : ℕ) → apart xs ys ≡ true → has ys k ≡ true → has xs k ≡ false
apart_left xs ys k a h =
    true_false (has xs k) (λ e. let f : has ys k ≡ false = apart_right xs ys k a e in cc)

-- The next token.

pub next_none : {T : Type 0} (kind : T → ℕ) (xs ys : List ℕ) (ts : List T) → next_in kind (xs ++ ys) ts ≡ false → (next_in kind xs ts ≡ false) × (next_in kind ys ts ≡ false)
next_none kind xs ys [] h = (refl, refl)
next_none kind xs ys (t ∷ ts) h = or_false _ _ (sym (has-append xs ys (kind t)) ∙ h)

pub next_within : {T : Type 0} (kind : T → ℕ) (xs ys : List ℕ) (ts : List T) → within xs ys ≡ true → next_in kind ys ts ≡ false → next_in kind xs ts ≡ false
next_within kind xs ys [] w h = refl
next_within kind xs ys (t ∷ ts) w h =
    true_false (has xs (kind t)) (λ e. let f : has ys (kind t) ≡ true = has-within xs ys (kind t) w e in cc)

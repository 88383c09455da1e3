use Rattle.std.proofs.Common.{◌≡◌, Bool, true, false, cond, List, [], ◌∷◌, ◌++◌, refl, sym, ◌∙◌, ap, ◌⊎◌, inl, inr, append_assoc}
use Rattle.carol_grammar.specs.Reading.{Reading, onward, giving}
use Rattle.carol_grammar.specs.Reading.Reading.{got, stuck}

-- What a step of a reading gave says what the parts gave.

pub onward_got : {T A B : Type 0} (x : Reading T A) (next : A → List T → Reading T B) (w : B) (rest : List T) → onward x next ≡ got w rest → (v : A) × (mid : List T) × (x ≡ got v mid) × (next v mid ≡ got w rest)
onward_got (got v mid) next w rest h = (v, mid, refl, h)
onward_got (stuck mid) next w rest h = cc

pub onward_stuck : {T A B : Type 0} (x : Reading T A) (next : A → List T → Reading T B) (rest : List T) → onward x next ≡ stuck rest → (x ≡ stuck rest) ⊎ ((v : A) × (mid : List T) × (x ≡ got v mid) × (next v mid ≡ stuck rest))
onward_stuck (got v mid) next rest h = inr (v, mid, refl, h)
onward_stuck {T} {A} {B} (stuck mid) next rest h = inl (let e : mid ≡ rest = cc in ap (λ z. stuck z) e)

pub giving_got : {T A B : Type 0} (f : A → B) (x : Reading T A) (w : B) (rest : List T) → giving f x ≡ got w rest → (v : A) × (x ≡ got v rest) × (f v ≡ w)
giving_got f (got v mid) w rest h = (v, (let e : mid ≡ rest = cc in ap (λ z. got v z) e), cc)
giving_got f (stuck mid) w rest h = cc

pub giving_stuck : {T A B : Type 0} (f : A → B) (x : Reading T A) (rest : List T) → giving f x ≡ stuck rest → x ≡ stuck rest
giving_stuck f (got v mid) rest h = cc
giving_stuck f (stuck mid) rest h = let e : mid ≡ rest = cc in ap (λ z. stuck z) e

pub chosen : {X : Type 0} (b : Bool) (x y z : X) → cond b x y ≡ z → ((b ≡ true) × (x ≡ z)) ⊎ ((b ≡ false) × (y ≡ z))
chosen true x y z h = inl (refl, h)
chosen false x y z h = inr (refl, h)

-- Lists.

pub split_join : {T : Type 0} (ts a m b c : List T) → ts ≡ a ++ m → m ≡ b ++ c → ts ≡ (a ++ b) ++ c
split_join ts a m b c p q = p ∙ ap (λ z. a ++ z) q ∙ sym (append_assoc a b c)

pub append_empty : {T : Type 0} (x y : List T) → [] ≡ x ++ y → (x ≡ []) × (y ≡ [])
append_empty [] y h = (refl, sym h)
append_empty (t ∷ x) y h = cc

-- An answer at a type that is written out.

abbrev pub got_as : (A : Type 0) {T : Type 0} → A → List T → Reading T A
got_as A v ts = got v ts

abbrev pub stuck_as : (A : Type 0) {T : Type 0} → List T → Reading T A
stuck_as A ts = stuck ts

-- A fixed word that is read stands at the front, and one that stands there is read.
use Rattle.std.proofs.Common.{◌≡◌, ℕ, suc, ◌+◌, ◌-◌, ◌<◌, ◌≤◌, Bool, true, false, cond, eqb, List, [], ◌∷◌, ◌++◌, length, get_or, drop, Result, Ok, Err, refl, ap, arith, add-one, drop-cons, eq-eqb}
use Rattle.std.proofs.lemmas.Bool.{eqb-true, ne_eqb}
use Rattle.std.proofs.lemmas.List.{length-drop}
use Rattle.std.proofs.Math.ListN.{drop_of_length-le}
use Rattle.carol_text.specs.Reading.{◌>>=◌, word_at}

-- a step that gave a value
pub bind_ok : {X Y : Type 0} (r : Result X ℕ) (f : X → Result Y ℕ) (y : Y) → (r >>= f) ≡ Ok y → (x : X) × (r ≡ Ok x) × (f x ≡ Ok y)
bind_ok (Ok x) f y e = (x, refl, e)
bind_ok (Err d) f y e = absurd cc

abbrev pub done : {X : Type 0} → X → Result X ℕ
done x = Ok x

-- two readings that gave a value and a rest
pub ok_parts : {X Y : Type 0} (a x : X) (b y : Y) → done {X = X × Y} (a, b) ≡ done {X = X × Y} (x, y) → (a ≡ x) × (b ≡ y)
ok_parts {X} {Y} a x b y e =
    let same : ◌≡◌ {A = X × Y} (a, b) (x, y) = cc in
    (ap (λ (p : X × Y). p.0) same, ap (λ (p : X × Y). p.1) same)

-- a test that was passed
pub guard_ok : {X : Type 0} (b : Bool) (r : Result X ℕ) (left : ℕ) (x : X) → cond b r (Err left) ≡ Ok x → (b ≡ true) × (r ≡ Ok x)
guard_ok true r left x e = (refl, e)
guard_ok false r left x e = absurd cc

pub word_takes : (word bytes rest : List ℕ) → word_at word bytes ≡ Ok rest → bytes ≡ word ++ rest
unfolding word_at
word_takes [] bytes rest e = cc
word_takes (w ∷ ws) [] rest e = absurd cc
word_takes (w ∷ ws) (b ∷ bs) rest e =
    let g = guard_ok (eqb b w) (word_at ws bs) (suc (length bs)) rest e in
    let same : b ≡ w = eqb-true _ _ g.0 in
    let more : bs ≡ ws ++ rest = word_takes ws bs rest g.1 in
    cc

pub word_again : (word rest : List ℕ) → word_at word (word ++ rest) ≡ Ok rest
unfolding word_at
word_again [] rest = refl
word_again (w ∷ ws) rest =
    let same : eqb w w ≡ true = eq-eqb w w refl in
    rw same (word_again ws rest)

-- one byte after the other, as a loop goes
pub word_goes_on : (word bytes : List ℕ) (i : ℕ) → i < length word → i < length bytes → get_or bytes i 0 ≡ get_or word i 0
    → word_at (drop i word) (drop i bytes) ≡ word_at (drop (i + 1) word) (drop (i + 1) bytes)
unfolding word_at
word_goes_on word bytes i in_word in_bytes h =
    let same : eqb (get_or bytes i 0) (get_or word i 0) ≡ true = eq-eqb _ _ h in
    rw (add-one, drop-cons word i 0, drop-cons bytes i 0, same) refl

pub word_differs : (word bytes : List ℕ) (i : ℕ) → i < length word → i < length bytes → (get_or bytes i 0 ≡ get_or word i 0 → ⊥)
    → word_at (drop i word) (drop i bytes) ≡ Err (length bytes - i)
unfolding word_at
word_differs word bytes i in_word in_bytes h =
    let other : eqb (get_or bytes i 0) (get_or word i 0) ≡ false = ne_eqb _ _ h in
    let left : suc (length (drop (suc i) bytes)) ≡ length bytes - i = omega (arith, length-drop (suc i) bytes) in
    rw (drop-cons word i 0, drop-cons bytes i 0, other, left) refl

pub word_ends : (word bytes : List ℕ) (i : ℕ) → i < length word → i ≡ length bytes → word_at (drop i word) (drop i bytes) ≡ Err 0
unfolding word_at
word_ends word bytes i in_word h =
    let nothing : drop i bytes ≡ [] = drop_of_length-le bytes (omega arith) in
    rw (drop-cons word i 0, nothing) refl

pub word_is_read : (word bytes : List ℕ) (i : ℕ) → length word ≤ i → word_at (drop i word) (drop i bytes) ≡ Ok (drop i bytes)
unfolding word_at
word_is_read word bytes i past = rw (drop_of_length-le word past) refl

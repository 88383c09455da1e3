-- Lists of products: the coefficients of a variable, order, and the one normal form.
use Rattle.std.proofs.Common.{ℕ, ◌+◌, ◌<◌, ◌≤◌, ◌≡◌, ◌≢◌, Bool, true, false, List, [], ◌∷◌, ◌++◌, arith, refl, sym, ◌∙◌, ap}
use Rattle.std.specs.Prelude.{◌==◌, if◌then◌else◌, ℤ, pos, ◌+ℤ◌, ◌*ℤ◌}
use Rattle.std.proofs.lemmas.Int.{ints}
use Rattle.std.proofs.lemmas.Bool.{cases_order}
use Rattle.std.proofs.Math.Logic.{⊎_elim}
use Rattle.std.proofs.Math.IntN.{+ℤ_idl, +ℤ_idr, +ℤ_assoc, *ℤ-zero}
use Rattle.carol_formula.specs.Linear.{AscendsFrom, NoneZero, kept, with_product, normal_of, times, coefficient_of}
use Rattle.carol_formula.proofs.Integers.{mul-add}
use Rattle.carol_formula.proofs.Orders.{by_order, by_same, by_zero, equal-eq}

-- what a product has of a variable
abbrev pub share : Bool → ℤ → ℤ
share b c = if b then c else pos 0

-- ---- coefficients

regrouped : (a b c : ℤ) (r s : ℤ) → r ≡ b +ℤ c → s ≡ a +ℤ r → s ≡ (a +ℤ b) +ℤ c
regrouped a b c r s h e = omega (arith, ints)

pub coefficient_of-append : (v : ℕ) (xs ys : List (ℕ × ℤ)) → coefficient_of v (xs ++ ys) ≡ coefficient_of v xs +ℤ coefficient_of v ys
coefficient_of-append v [] ys = sym (+ℤ_idl (coefficient_of v ys))
coefficient_of-append v (x ∷ xs) ys = regrouped (share (v == x.0) x.1) (coefficient_of v xs) (coefficient_of v ys) _ _ (coefficient_of-append v xs ys) refl

times-share : (b : Bool) (k c : ℤ) → k *ℤ share b c ≡ share b (k *ℤ c)
times-share true k c = refl
times-share false k c = *ℤ-zero k

pub coefficient_of-times : (v : ℕ) (k : ℤ) (xs : List (ℕ × ℤ)) → coefficient_of v (times k xs) ≡ k *ℤ coefficient_of v xs
coefficient_of-times v k [] = sym (*ℤ-zero k)
coefficient_of-times v k (x ∷ xs) = ap (λ z. share (v == x.0) (k *ℤ x.1) +ℤ z) (coefficient_of-times v k xs) ∙ ap (λ z. z +ℤ (k *ℤ coefficient_of v xs)) (sym (times-share (v == x.0) k x.1)) ∙ sym (mul-add k (share (v == x.0) x.1) (coefficient_of v xs))

share-zero : (b : Bool) → share b (pos 0) ≡ pos 0
share-zero true = refl
share-zero false = refl

share-add : (b : Bool) (c d : ℤ) → share b (c +ℤ d) ≡ share b c +ℤ share b d
share-add true c d = refl
share-add false c d = refl

pub coefficient_of-kept : (v w : ℕ) (c : ℤ) (ps : List (ℕ × ℤ)) → coefficient_of v (kept w c ps) ≡ share (v == w) c +ℤ coefficient_of v ps
coefficient_of-kept v w c ps = by_zero c (λ b. coefficient_of v (if b then ps else ((w, c) ∷ ps)) ≡ share (v == w) c +ℤ coefficient_of v ps)
    (λ e. sym (ap (λ z. share (v == w) z +ℤ coefficient_of v ps) e ∙ ap (λ z. z +ℤ coefficient_of v ps) (share-zero (v == w)) ∙ +ℤ_idl (coefficient_of v ps)))
    (λ n. refl)

swapped : (a b c r s : ℤ) → r ≡ a +ℤ c → s ≡ b +ℤ r → s ≡ a +ℤ (b +ℤ c)
swapped a b c r s h e = omega (arith, ints)

moved : (a b c r s : ℤ) → r ≡ a +ℤ (b +ℤ c) → s ≡ a +ℤ c → r ≡ b +ℤ s
moved a b c r s h e = omega (arith, ints)

pub coefficient_of-with_product : (v w : ℕ) (c : ℤ) (ps : List (ℕ × ℤ)) → coefficient_of v (with_product w c ps) ≡ share (v == w) c +ℤ coefficient_of v ps
coefficient_of-with_product v w c [] = coefficient_of-kept v w c []
coefficient_of-with_product v w c (p ∷ ps) = by_order w p.0 (λ a b. coefficient_of v (if a then kept w c (p ∷ ps) else if b then kept w (c +ℤ p.1) ps else (p ∷ with_product w c ps)) ≡ share (v == w) c +ℤ (share (v == p.0) p.1 +ℤ coefficient_of v ps))
    (λ h. coefficient_of-kept v w c (p ∷ ps))
    (λ e. coefficient_of-kept v w (c +ℤ p.1) ps ∙ ap (λ z. z +ℤ coefficient_of v ps) (share-add (v == w) c p.1) ∙ +ℤ_assoc (share (v == w) c) (share (v == w) p.1) (coefficient_of v ps) ∙ ap (λ u. share (v == w) c +ℤ (share (v == u) p.1 +ℤ coefficient_of v ps)) e)
    (λ h. swapped (share (v == w) c) (share (v == p.0) p.1) (coefficient_of v ps) _ _ (coefficient_of-with_product v w c ps) refl)

pub coefficient_of-normal_of : (v : ℕ) (xs : List (ℕ × ℤ)) → coefficient_of v (normal_of xs) ≡ coefficient_of v xs
coefficient_of-normal_of v [] = refl
coefficient_of-normal_of v (x ∷ xs) = coefficient_of-with_product v x.0 x.1 (normal_of xs) ∙ ap (λ z. share (v == x.0) x.1 +ℤ z) (coefficient_of-normal_of v xs)

-- ---- order

-- no variable is below `low`
abbrev pub AllFrom : ℕ → List (ℕ × ℤ) → Type 0
AllFrom low [] = Unit {0}
AllFrom low (p ∷ ps) = (low ≤ p.0) × AllFrom low ps

pub AscendsFrom-lower : (low high : ℕ) (ps : List (ℕ × ℤ)) → low ≤ high → AscendsFrom high ps → AscendsFrom low ps
AscendsFrom-lower low high [] h a = tt
AscendsFrom-lower low high (p ∷ ps) h a = (omega (arith, h, a.0), a.1)

pub AllFrom-lower : (low high : ℕ) (ps : List (ℕ × ℤ)) → low ≤ high → AllFrom high ps → AllFrom low ps
AllFrom-lower low high [] h a = tt
AllFrom-lower low high (p ∷ ps) h a = (omega (arith, h, a.0), AllFrom-lower low high ps h a.1)

pub AllFrom-ascends : (low : ℕ) (ps : List (ℕ × ℤ)) → AscendsFrom low ps → AllFrom low ps
AllFrom-ascends low [] a = tt
AllFrom-ascends low (p ∷ ps) a = (a.0, AllFrom-lower low (p.0 + 1) ps (omega (arith, a.0)) (AllFrom-ascends (p.0 + 1) ps a.1))

pub AllFrom-append : (low : ℕ) (xs ys : List (ℕ × ℤ)) → AllFrom low xs → AllFrom low ys → AllFrom low (xs ++ ys)
AllFrom-append low [] ys a b = b
AllFrom-append low (x ∷ xs) ys a b = (a.0, AllFrom-append low xs ys a.1 b)

pub AllFrom-times : (low : ℕ) (k : ℤ) (xs : List (ℕ × ℤ)) → AllFrom low xs → AllFrom low (times k xs)
AllFrom-times low k [] a = tt
AllFrom-times low k (x ∷ xs) a = (a.0, AllFrom-times low k xs a.1)

pub AllFrom-zero : (xs : List (ℕ × ℤ)) → AllFrom 0 xs
AllFrom-zero [] = tt
AllFrom-zero (x ∷ xs) = (omega arith, AllFrom-zero xs)

pub AscendsFrom-kept : (low v : ℕ) (c : ℤ) (ps : List (ℕ × ℤ)) → low ≤ v → AscendsFrom (v + 1) ps → AscendsFrom low (kept v c ps)
AscendsFrom-kept low v c ps h a = by_zero c (λ b. AscendsFrom low (if b then ps else ((v, c) ∷ ps)))
    (λ _. AscendsFrom-lower low (v + 1) ps (omega (arith, h)) a)
    (λ _. (h, a))

pub AscendsFrom-with_product : (low v : ℕ) (c : ℤ) (ps : List (ℕ × ℤ)) → low ≤ v → AscendsFrom low ps → AscendsFrom low (with_product v c ps)
AscendsFrom-with_product low v c [] h a = AscendsFrom-kept low v c [] h tt
AscendsFrom-with_product low v c (p ∷ ps) h a = by_order v p.0 (λ x y. AscendsFrom low (if x then kept v c (p ∷ ps) else if y then kept v (c +ℤ p.1) ps else (p ∷ with_product v c ps)))
    (λ l. AscendsFrom-kept low v c (p ∷ ps) h (omega (arith, l), a.1))
    (λ e. AscendsFrom-kept low v (c +ℤ p.1) ps h (AscendsFrom-lower (v + 1) (p.0 + 1) ps (omega (arith, e)) a.1))
    (λ g. (a.0, AscendsFrom-with_product (p.0 + 1) v c ps (omega (arith, g)) a.1))

pub AscendsFrom-normal_of : (low : ℕ) (xs : List (ℕ × ℤ)) → AllFrom low xs → AscendsFrom low (normal_of xs)
AscendsFrom-normal_of low [] a = tt
AscendsFrom-normal_of low (x ∷ xs) a = AscendsFrom-with_product low x.0 x.1 (normal_of xs) a.0 (AscendsFrom-normal_of low xs a.1)

pub NoneZero-kept : (v : ℕ) (c : ℤ) (ps : List (ℕ × ℤ)) → NoneZero ps → NoneZero (kept v c ps)
NoneZero-kept v c ps n = by_zero c (λ b. NoneZero (if b then ps else ((v, c) ∷ ps))) (λ _. n) (λ m. (m, n))

pub NoneZero-with_product : (v : ℕ) (c : ℤ) (ps : List (ℕ × ℤ)) → NoneZero ps → NoneZero (with_product v c ps)
NoneZero-with_product v c [] n = NoneZero-kept v c [] tt
NoneZero-with_product v c (p ∷ ps) n = by_order v p.0 (λ x y. NoneZero (if x then kept v c (p ∷ ps) else if y then kept v (c +ℤ p.1) ps else (p ∷ with_product v c ps)))
    (λ _. NoneZero-kept v c (p ∷ ps) n)
    (λ _. NoneZero-kept v (c +ℤ p.1) ps n.1)
    (λ _. (n.0, NoneZero-with_product v c ps n.1))

pub NoneZero-normal_of : (xs : List (ℕ × ℤ)) → NoneZero (normal_of xs)
NoneZero-normal_of [] = tt
NoneZero-normal_of (x ∷ xs) = NoneZero-with_product x.0 x.1 (normal_of xs) (NoneZero-normal_of xs)

-- a variable before the first one has no coefficient
pub coefficient_of-absent : (v low : ℕ) (ps : List (ℕ × ℤ)) → v < low → AllFrom low ps → coefficient_of v ps ≡ pos 0
coefficient_of-absent v low [] h a = refl
coefficient_of-absent v low (p ∷ ps) h a = by_same v p.0 (λ b. share b p.1 +ℤ coefficient_of v ps ≡ pos 0) (λ e. absurd (omega (arith, e, h, a.0))) (λ n. +ℤ_idl (coefficient_of v ps) ∙ coefficient_of-absent v low ps h a.1)

-- the first variable's coefficient is that of the first product
pub coefficient_of-first : (p : ℕ × ℤ) (ps : List (ℕ × ℤ)) → AscendsFrom (p.0 + 1) ps → coefficient_of p.0 (p ∷ ps) ≡ p.1
coefficient_of-first p ps a = ap (λ b. share b p.1 +ℤ coefficient_of p.0 ps) (equal-eq p.0 p.0 refl) ∙ ap (λ z. p.1 +ℤ z) (coefficient_of-absent p.0 (p.0 + 1) ps (omega arith) (AllFrom-ascends (p.0 + 1) ps a)) ∙ +ℤ_idr p.1

-- ---- one normal form

cancelled : (a b x y : ℤ) → a ≡ b → a +ℤ x ≡ b +ℤ y → x ≡ y
cancelled a b x y e h = omega (arith, ints)

joined : (p q : ℕ × ℤ) (ps qs : List (ℕ × ℤ)) → p.0 ≡ q.0 → p.1 ≡ q.1 → ps ≡ qs → p ∷ ps ≡ q ∷ qs
joined p q ps qs e f g = ap (λ (v : ℕ). (v, p.1) ∷ ps) e ∙ ap (λ (c : ℤ). (q.0, c) ∷ ps) f ∙ ap (λ (rest : List (ℕ × ℤ)). q ∷ rest) g

-- ascending lists without zeros are one where all coefficients are
pub same_products : (low : ℕ) (xs ys : List (ℕ × ℤ)) → AscendsFrom low xs → AscendsFrom low ys → NoneZero xs → NoneZero ys → ((v : ℕ) → coefficient_of v xs ≡ coefficient_of v ys) → xs ≡ ys
same_products low [] [] a b n m h = refl
same_products low [] (y ∷ ys) a b n m h = absurd (m.0 (sym (coefficient_of-first y ys b.1) ∙ sym (h y.0)))
same_products low (x ∷ xs) [] a b n m h = absurd (n.0 (sym (coefficient_of-first x xs a.1) ∙ h x.0))
same_products low (x ∷ xs) (y ∷ ys) a b n m h = ⊎_elim (λ e. joined x y xs ys e (first e) (same_products (x.0 + 1) xs ys a.1 (AscendsFrom-lower (x.0 + 1) (y.0 + 1) ys (omega (arith, e)) b.1) n.1 m.1 (others e))) (⊎_elim before after) (cases_order x.0 y.0)
  where
    before : x.0 < y.0 → x ∷ xs ≡ y ∷ ys
    before l = absurd (n.0 (sym (coefficient_of-first x xs a.1) ∙ h x.0 ∙ coefficient_of-absent x.0 y.0 (y ∷ ys) l (AllFrom-ascends y.0 (y ∷ ys) (omega arith, b.1))))

    after : y.0 < x.0 → x ∷ xs ≡ y ∷ ys
    after l = absurd (m.0 (sym (coefficient_of-first y ys b.1) ∙ sym (h y.0) ∙ coefficient_of-absent y.0 x.0 (x ∷ xs) l (AllFrom-ascends x.0 (x ∷ xs) (omega arith, a.1))))

    first : x.0 ≡ y.0 → x.1 ≡ y.1
    first e = sym (coefficient_of-first x xs a.1) ∙ h x.0 ∙ ap (λ v. coefficient_of v (y ∷ ys)) e ∙ coefficient_of-first y ys b.1

    others : x.0 ≡ y.0 → (v : ℕ) → coefficient_of v xs ≡ coefficient_of v ys
    others e v = cancelled (share (v == x.0) x.1) (share (v == y.0) y.1) (coefficient_of v xs) (coefficient_of v ys) (ap (λ u. share (v == u) x.1) e ∙ ap (λ c. share (v == y.0) c) (first e)) (h v)

-- a list's normal form depends on the coefficients alone
pub same_normal : (xs ys : List (ℕ × ℤ)) → ((v : ℕ) → coefficient_of v xs ≡ coefficient_of v ys) → normal_of xs ≡ normal_of ys
same_normal xs ys h = same_products 0 (normal_of xs) (normal_of ys) (AscendsFrom-normal_of 0 xs (AllFrom-zero xs)) (AscendsFrom-normal_of 0 ys (AllFrom-zero ys)) (NoneZero-normal_of xs) (NoneZero-normal_of ys)
    (λ v. coefficient_of-normal_of v xs ∙ h v ∙ sym (coefficient_of-normal_of v ys))

-- a list in normal form stays as it is
pub normal_of-normal : (xs : List (ℕ × ℤ)) → AscendsFrom 0 xs → NoneZero xs → normal_of xs ≡ xs
normal_of-normal xs a n = same_products 0 (normal_of xs) xs (AscendsFrom-normal_of 0 xs (AllFrom-zero xs)) a (NoneZero-normal_of xs) n (λ v. coefficient_of-normal_of v xs)

-- a product may be added first
pub normal_of-move : (xs : List (ℕ × ℤ)) (q : ℕ × ℤ) (ys : List (ℕ × ℤ)) → normal_of (xs ++ q ∷ ys) ≡ normal_of (q ∷ (xs ++ ys))
normal_of-move xs q ys = same_normal (xs ++ q ∷ ys) (q ∷ (xs ++ ys))
    (λ v. moved (coefficient_of v xs) (share (v == q.0) q.1) (coefficient_of v ys) _ _ (coefficient_of-append v xs (q ∷ ys)) (coefficient_of-append v xs ys))

-- a product of a smaller variable comes first
with_product-first : (v : ℕ) (c : ℤ) (ps : List (ℕ × ℤ)) → AscendsFrom (v + 1) ps → with_product v c ps ≡ kept v c ps
with_product-first v c [] a = refl
with_product-first v c (p ∷ ps) a = by_order v p.0 (λ x y. (if x then kept v c (p ∷ ps) else if y then kept v (c +ℤ p.1) ps else (p ∷ with_product v c ps)) ≡ kept v c (p ∷ ps))
    (λ _. refl) (λ e. absurd (omega (arith, e, a.0))) (λ h. absurd (omega (arith, h, a.0)))

pub normal_of-first : (p : ℕ × ℤ) (xs : List (ℕ × ℤ)) → AllFrom (p.0 + 1) xs → normal_of (p ∷ xs) ≡ kept p.0 p.1 (normal_of xs)
normal_of-first p xs a = with_product-first p.0 p.1 (normal_of xs) (AscendsFrom-normal_of (p.0 + 1) xs a)

pub kept-nonzero : (v : ℕ) (c : ℤ) (ps : List (ℕ × ℤ)) → c ≢ pos 0 → kept v c ps ≡ (v, c) ∷ ps
kept-nonzero v c ps n = by_zero c (λ b. (if b then ps else ((v, c) ∷ ps)) ≡ (v, c) ∷ ps) (λ e. absurd (n e)) (λ _. refl)

pub kept-append : (v : ℕ) (c : ℤ) (ps : List (ℕ × ℤ)) → kept v c [] ++ ps ≡ kept v c ps
kept-append v c ps = by_zero c (λ b. (if b then [] else ((v, c) ∷ [])) ++ ps ≡ (if b then ps else ((v, c) ∷ ps))) (λ _. refl) (λ _. refl)

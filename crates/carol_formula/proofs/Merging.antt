-- The state of a merge of one term's products with `by` times another's.
use Rattle.std.proofs.Common.{ℕ, ◌+◌, ◌<◌, ◌≡◌, ◌≢◌, List, [], ◌∷◌, ◌++◌, append_assoc, append-nil, length, arith, refl, sym, ◌∙◌, ap, subst}
use Rattle.std.specs.Prelude.{if◌then◌else◌, ℤ, pos, ◌+ℤ◌, ◌*ℤ◌}
use Rattle.std.proofs.Math.IntN.{+ℤ_comm}
use Rattle.carol_formula.specs.Bounds.{IsBelow}
use Rattle.carol_formula.specs.Linear.{AscendsFrom, NoneZero, AllBelow, kept, with_product, normal_of, times}
use Rattle.carol_formula.proofs.Orders.{by_zero, by_order}
use Rattle.carol_formula.proofs.Products.{AllFrom, AllFrom-ascends, AllFrom-append, AllFrom-times, AscendsFrom-lower, normal_of-normal, normal_of-move, normal_of-first, kept-append, kept-nonzero}

-- what is done, and what is left of both
pub record Merging (limit : ℕ) (ones : List (ℕ × ℤ)) (by : ℤ) (others out left right : List (ℕ × ℤ)) : Type 0 where
  pub left_ascends : AscendsFrom 0 left
  pub right_ascends : AscendsFrom 0 right
  pub none_zero : NoneZero left
  pub left_below : AllBelow limit left
  pub out_below : AllBelow limit out
  pub whole : out ++ normal_of (left ++ times by right) ≡ normal_of (ones ++ times by others)

pub AllBelow-append : (limit : ℕ) (xs ys : List (ℕ × ℤ)) → AllBelow limit xs → AllBelow limit ys → AllBelow limit (xs ++ ys)
AllBelow-append limit [] ys a b = b
AllBelow-append limit (x ∷ xs) ys a b = (a.0, AllBelow-append limit xs ys a.1 b)

pub AllBelow-back : (limit : ℕ) (xs ys : List (ℕ × ℤ)) → AllBelow limit (xs ++ ys) → AllBelow limit ys
AllBelow-back limit [] ys a = a
AllBelow-back limit (x ∷ xs) ys a = AllBelow-back limit xs ys a.1

AllBelow-kept : (limit v : ℕ) (c : ℤ) (ps : List (ℕ × ℤ)) → IsBelow limit c → AllBelow limit ps → AllBelow limit (kept v c ps)
AllBelow-kept limit v c ps h a = by_zero c (λ b. AllBelow limit (if b then ps else ((v, c) ∷ ps))) (λ _. a) (λ _. (h, a))

-- a product that is kept too wide is among the others
kept-below : (limit v : ℕ) (c : ℤ) (ps : List (ℕ × ℤ)) → 0 < limit → AllBelow limit (kept v c ps) → IsBelow limit c
kept-below limit v c ps positive = by_zero c (λ b. AllBelow limit (if b then ps else ((v, c) ∷ ps)) → IsBelow limit c) (λ e _. subst (IsBelow limit) (sym e) positive) (λ _ a. a.0)

kept_appended : (out : List (ℕ × ℤ)) (v : ℕ) (c : ℤ) (ps : List (ℕ × ℤ)) → (out ++ kept v c []) ++ ps ≡ out ++ kept v c ps
kept_appended out v c ps = append_assoc out (kept v c []) ps ∙ ap (λ zs. out ++ zs) (kept-append v c ps)

from_next : (low : ℕ) (xs : List (ℕ × ℤ)) (k : ℤ) (ys : List (ℕ × ℤ)) → AllFrom low xs → AscendsFrom low ys → AllFrom low (xs ++ times k ys)
from_next low xs k ys a b = AllFrom-append low xs (times k ys) a (AllFrom-times low k ys (AllFrom-ascends low ys b))

-- what comes next, by the order of the two first variables
next_left : (p : ℕ × ℤ) (rest : List (ℕ × ℤ)) (by : ℤ) (q : ℕ × ℤ) (more : List (ℕ × ℤ)) → p.0 < q.0 → AscendsFrom 0 (p ∷ rest) → AscendsFrom 0 (q ∷ more) → normal_of ((p ∷ rest) ++ times by (q ∷ more)) ≡ kept p.0 p.1 (normal_of (rest ++ times by (q ∷ more)))
next_left p rest by q more l a b = normal_of-first p (rest ++ times by (q ∷ more)) (from_next (p.0 + 1) rest by (q ∷ more) (AllFrom-ascends (p.0 + 1) rest a.1) (omega (arith, l), b.1))

next_right : (left : List (ℕ × ℤ)) (by : ℤ) (q : ℕ × ℤ) (more : List (ℕ × ℤ)) → AllFrom (q.0 + 1) left → AscendsFrom 0 (q ∷ more) → normal_of (left ++ times by (q ∷ more)) ≡ kept q.0 (by *ℤ q.1) (normal_of (left ++ times by more))
next_right left by q more a b = normal_of-move left (q.0, by *ℤ q.1) (times by more) ∙ normal_of-first (q.0, by *ℤ q.1) (left ++ times by more) (from_next (q.0 + 1) left by more a b.1)

with_product-same : (v w : ℕ) (c d : ℤ) (ps : List (ℕ × ℤ)) → w ≡ v → with_product v c ((w, d) ∷ ps) ≡ kept v (c +ℤ d) ps
with_product-same v w c d ps e = by_order v w (λ x y. (if x then kept v c ((w, d) ∷ ps) else if y then kept v (c +ℤ d) ps else ((w, d) ∷ with_product v c ps)) ≡ kept v (c +ℤ d) ps)
    (λ h. absurd (omega (arith, h, e))) (λ _. refl) (λ h. absurd (omega (arith, h, e)))

next_both : (p : ℕ × ℤ) (rest : List (ℕ × ℤ)) (by : ℤ) (q : ℕ × ℤ) (more : List (ℕ × ℤ)) → p.0 ≡ q.0 → p.1 ≢ pos 0 → AscendsFrom 0 (p ∷ rest) → AscendsFrom 0 (q ∷ more) → normal_of ((p ∷ rest) ++ times by (q ∷ more)) ≡ kept q.0 (p.1 +ℤ (by *ℤ q.1)) (normal_of (rest ++ times by more))
next_both p rest by q more e n a b = normal_of-move (p ∷ rest) (q.0, by *ℤ q.1) (times by more) ∙ ap (with_product q.0 (by *ℤ q.1)) (first ∙ kept-nonzero p.0 p.1 others n) ∙ with_product-same q.0 p.0 (by *ℤ q.1) p.1 others e ∙ ap (λ c. kept q.0 c others) (+ℤ_comm (by *ℤ q.1) p.1)
  where
    others : List (ℕ × ℤ)
    others = normal_of (rest ++ times by more)

    first : normal_of (p ∷ (rest ++ times by more)) ≡ kept p.0 p.1 others
    first = normal_of-first p (rest ++ times by more) (from_next (p.0 + 1) rest by more (AllFrom-ascends (p.0 + 1) rest a.1) (AscendsFrom-lower (p.0 + 1) (q.0 + 1) more (omega (arith, e)) b.1))

pub merge_left : (limit : ℕ) (ones : List (ℕ × ℤ)) (by : ℤ) (others out : List (ℕ × ℤ)) (p : ℕ × ℤ) (rest : List (ℕ × ℤ)) (q : ℕ × ℤ) (more : List (ℕ × ℤ)) → p.0 < q.0 → Merging limit ones by others out (p ∷ rest) (q ∷ more) → Merging limit ones by others (out ++ kept p.0 p.1 []) rest (q ∷ more)
merge_left limit ones by others out p rest q more l m = record {
  left_ascends = AscendsFrom-lower 0 (p.0 + 1) rest (omega arith) m.left_ascends.1;
  right_ascends = m.right_ascends;
  none_zero = m.none_zero.1;
  left_below = m.left_below.1;
  out_below = AllBelow-append limit out (kept p.0 p.1 []) m.out_below (AllBelow-kept limit p.0 p.1 [] m.left_below.0 tt);
  whole = kept_appended out p.0 p.1 (normal_of (rest ++ times by (q ∷ more))) ∙ ap (λ zs. out ++ zs) (sym (next_left p rest by q more l m.left_ascends m.right_ascends)) ∙ m.whole;
}

pub merge_both : (limit : ℕ) (ones : List (ℕ × ℤ)) (by : ℤ) (others out : List (ℕ × ℤ)) (p : ℕ × ℤ) (rest : List (ℕ × ℤ)) (q : ℕ × ℤ) (more : List (ℕ × ℤ)) → p.0 ≡ q.0 → IsBelow limit (p.1 +ℤ (by *ℤ q.1)) → Merging limit ones by others out (p ∷ rest) (q ∷ more) → Merging limit ones by others (out ++ kept q.0 (p.1 +ℤ (by *ℤ q.1)) []) rest more
merge_both limit ones by others out p rest q more e h m = record {
  left_ascends = AscendsFrom-lower 0 (p.0 + 1) rest (omega arith) m.left_ascends.1;
  right_ascends = AscendsFrom-lower 0 (q.0 + 1) more (omega arith) m.right_ascends.1;
  none_zero = m.none_zero.1;
  left_below = m.left_below.1;
  out_below = AllBelow-append limit out (kept q.0 (p.1 +ℤ (by *ℤ q.1)) []) m.out_below (AllBelow-kept limit q.0 (p.1 +ℤ (by *ℤ q.1)) [] h tt);
  whole = kept_appended out q.0 (p.1 +ℤ (by *ℤ q.1)) (normal_of (rest ++ times by more)) ∙ ap (λ zs. out ++ zs) (sym (next_both p rest by q more e m.none_zero.0 m.left_ascends m.right_ascends)) ∙ m.whole;
}

pub merge_right : (limit : ℕ) (ones : List (ℕ × ℤ)) (by : ℤ) (others out left : List (ℕ × ℤ)) (q : ℕ × ℤ) (more : List (ℕ × ℤ)) → AllFrom (q.0 + 1) left → IsBelow limit (by *ℤ q.1) → Merging limit ones by others out left (q ∷ more) → Merging limit ones by others (out ++ kept q.0 (by *ℤ q.1) []) left more
merge_right limit ones by others out left q more a h m = record {
  left_ascends = m.left_ascends;
  right_ascends = AscendsFrom-lower 0 (q.0 + 1) more (omega arith) m.right_ascends.1;
  none_zero = m.none_zero;
  left_below = m.left_below;
  out_below = AllBelow-append limit out (kept q.0 (by *ℤ q.1) []) m.out_below (AllBelow-kept limit q.0 (by *ℤ q.1) [] h tt);
  whole = kept_appended out q.0 (by *ℤ q.1) (normal_of (left ++ times by more)) ∙ ap (λ zs. out ++ zs) (sym (next_right left by q more a m.right_ascends)) ∙ m.whole;
}

-- a coefficient that is too wide is one of the whole
pub wide_both : (limit : ℕ) (ones : List (ℕ × ℤ)) (by : ℤ) (others out : List (ℕ × ℤ)) (p : ℕ × ℤ) (rest : List (ℕ × ℤ)) (q : ℕ × ℤ) (more : List (ℕ × ℤ)) → 0 < limit → p.0 ≡ q.0 → ¬ IsBelow limit (p.1 +ℤ (by *ℤ q.1)) → Merging limit ones by others out (p ∷ rest) (q ∷ more) → ¬ AllBelow limit (normal_of (ones ++ times by others))
wide_both limit ones by others out p rest q more positive e h m a = h (kept-below limit q.0 (p.1 +ℤ (by *ℤ q.1)) (normal_of (rest ++ times by more)) positive (AllBelow-back limit out _ (subst (AllBelow limit) (sym m.whole ∙ ap (λ zs. out ++ zs) (next_both p rest by q more e m.none_zero.0 m.left_ascends m.right_ascends)) a)))

pub wide_right : (limit : ℕ) (ones : List (ℕ × ℤ)) (by : ℤ) (others out left : List (ℕ × ℤ)) (q : ℕ × ℤ) (more : List (ℕ × ℤ)) → 0 < limit → AllFrom (q.0 + 1) left → ¬ IsBelow limit (by *ℤ q.1) → Merging limit ones by others out left (q ∷ more) → ¬ AllBelow limit (normal_of (ones ++ times by others))
wide_right limit ones by others out left q more positive b h m a = h (kept-below limit q.0 (by *ℤ q.1) (normal_of (left ++ times by more)) positive (AllBelow-back limit out _ (subst (AllBelow limit) (sym m.whole ∙ ap (λ zs. out ++ zs) (next_right left by q more b m.right_ascends)) a)))

-- once nothing is left of the other, the rest stays as it is
pub merge_end : (limit : ℕ) (ones : List (ℕ × ℤ)) (by : ℤ) (others out left : List (ℕ × ℤ)) → Merging limit ones by others out left [] → (out ++ left ≡ normal_of (ones ++ times by others)) × AllBelow limit (out ++ left)
merge_end limit ones by others out left m = (ap (λ zs. out ++ zs) (sym (ap normal_of (append-nil left) ∙ normal_of-normal left m.left_ascends m.none_zero)) ∙ m.whole, AllBelow-append limit out left m.out_below m.left_below)

-- ---- the same, where the lists are known by equations

opened : (limit : ℕ) (ones : List (ℕ × ℤ)) (by : ℤ) (others out left left' right right' : List (ℕ × ℤ)) → Merging limit ones by others out left right → left ≡ left' → right ≡ right' → Merging limit ones by others out left' right'
opened limit ones by others out left left' right right' m e f = subst (λ zs. Merging limit ones by others out left' zs) f (subst (λ zs. Merging limit ones by others out zs right) e m)

pub step_left : (limit : ℕ) (ones : List (ℕ × ℤ)) (by : ℤ) (others out out' left : List (ℕ × ℤ)) (p : ℕ × ℤ) (rest right : List (ℕ × ℤ)) (q : ℕ × ℤ) (more : List (ℕ × ℤ)) → Merging limit ones by others out left right → left ≡ p ∷ rest → right ≡ q ∷ more → p.0 < q.0 → out' ≡ out ++ kept p.0 p.1 [] → Merging limit ones by others out' rest right
step_left limit ones by others out out' left p rest right q more m e f l g = subst (λ zs. Merging limit ones by others zs rest right) (sym g) (subst (λ zs. Merging limit ones by others (out ++ kept p.0 p.1 []) rest zs) (sym f) (merge_left limit ones by others out p rest q more l (opened limit ones by others out left (p ∷ rest) right (q ∷ more) m e f)))

pub step_both : (limit : ℕ) (ones : List (ℕ × ℤ)) (by : ℤ) (others out out' left : List (ℕ × ℤ)) (p : ℕ × ℤ) (rest right : List (ℕ × ℤ)) (q : ℕ × ℤ) (more : List (ℕ × ℤ)) → Merging limit ones by others out left right → left ≡ p ∷ rest → right ≡ q ∷ more → p.0 ≡ q.0 → (out' ≡ out ++ kept q.0 (p.1 +ℤ (by *ℤ q.1)) []) × IsBelow limit (p.1 +ℤ (by *ℤ q.1)) → Merging limit ones by others out' rest more
step_both limit ones by others out out' left p rest right q more m e f l g = subst (λ zs. Merging limit ones by others zs rest more) (sym g.0) (merge_both limit ones by others out p rest q more l g.1 (opened limit ones by others out left (p ∷ rest) right (q ∷ more) m e f))

pub step_right : (limit : ℕ) (ones : List (ℕ × ℤ)) (by : ℤ) (others out out' left right : List (ℕ × ℤ)) (q : ℕ × ℤ) (more : List (ℕ × ℤ)) → Merging limit ones by others out left right → right ≡ q ∷ more → AllFrom (q.0 + 1) left → (out' ≡ out ++ kept q.0 (by *ℤ q.1) []) × IsBelow limit (by *ℤ q.1) → Merging limit ones by others out' left more
step_right limit ones by others out out' left right q more m f a g = subst (λ zs. Merging limit ones by others zs left more) (sym g.0) (merge_right limit ones by others out left q more a g.1 (opened limit ones by others out left left right (q ∷ more) m refl f))

pub too_wide_both : (limit : ℕ) (ones : List (ℕ × ℤ)) (by : ℤ) (others out left : List (ℕ × ℤ)) (p : ℕ × ℤ) (rest right : List (ℕ × ℤ)) (q : ℕ × ℤ) (more : List (ℕ × ℤ)) → 0 < limit → Merging limit ones by others out left right → left ≡ p ∷ rest → right ≡ q ∷ more → p.0 ≡ q.0 → ¬ IsBelow limit (p.1 +ℤ (by *ℤ q.1)) → ¬ AllBelow limit (normal_of (ones ++ times by others))
too_wide_both limit ones by others out left p rest right q more positive m e f l h = wide_both limit ones by others out p rest q more positive l h (opened limit ones by others out left (p ∷ rest) right (q ∷ more) m e f)

pub too_wide_right : (limit : ℕ) (ones : List (ℕ × ℤ)) (by : ℤ) (others out left right : List (ℕ × ℤ)) (q : ℕ × ℤ) (more : List (ℕ × ℤ)) → 0 < limit → Merging limit ones by others out left right → right ≡ q ∷ more → AllFrom (q.0 + 1) left → ¬ IsBelow limit (by *ℤ q.1) → ¬ AllBelow limit (normal_of (ones ++ times by others))
too_wide_right limit ones by others out left right q more positive m f a h = wide_right limit ones by others out left q more positive a h (opened limit ones by others out left left right (q ∷ more) m refl f)

-- the first variable of what is left is above the other's, or nothing is left
pub above_first : (limit : ℕ) (ones : List (ℕ × ℤ)) (by : ℤ) (others out left : List (ℕ × ℤ)) (p : ℕ × ℤ) (rest right : List (ℕ × ℤ)) (w : ℕ) → Merging limit ones by others out left right → left ≡ p ∷ rest → w < p.0 → AllFrom (w + 1) left
above_first limit ones by others out left p rest right w m e l = subst (AllFrom (w + 1)) (sym e) (AllFrom-ascends (w + 1) (p ∷ rest) (omega (arith, l), (subst (AscendsFrom 0) e m.left_ascends).1))

pub nothing : (xs : List (ℕ × ℤ)) → length xs ≡ 0 → xs ≡ []
nothing [] e = refl
nothing (x ∷ xs) e = absurd (omega arith)

pub above_nothing : (left : List (ℕ × ℤ)) (w : ℕ) → length left ≡ 0 → AllFrom (w + 1) left
above_nothing left w e = subst (AllFrom (w + 1)) (sym (nothing left e)) tt

pub ends : (limit : ℕ) (ones : List (ℕ × ℤ)) (by : ℤ) (others out out' left right : List (ℕ × ℤ)) → Merging limit ones by others out left right → length right ≡ 0 → out' ≡ out ++ left → (out' ≡ normal_of (ones ++ times by others)) × AllBelow limit out'
ends limit ones by others out out' left right m f g = subst (λ zs. (zs ≡ normal_of (ones ++ times by others)) × AllBelow limit zs) (sym g) (merge_end limit ones by others out left (opened limit ones by others out left left right [] m refl (nothing right f)))

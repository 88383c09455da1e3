-- Laws of sums and products of whole numbers.
use Rattle.std.proofs.Common.{ℕ, ◌≡◌, sym, ◌∙◌, ap, arith}
use Rattle.std.specs.Prelude.{ℤ, pos, negsuc, ◌+ℤ◌, ◌*ℤ◌, neg_ℤ}
use Rattle.std.proofs.lemmas.Int.{ints}
use Rattle.std.proofs.Math.IntN.{ℤ_ind, +ℤ_one, -ℤ_one, +ℤ_idl, +ℤ_invr, suc_ℤ-*ℤ, pred_ℤ-*ℤ, zero-*ℤ, *ℤ_comm}

-- one more, and one less, of a factor
mul-more : (m k : ℤ) → (m +ℤ pos 1) *ℤ k ≡ (m *ℤ k) +ℤ k
mul-more m k = ap (λ z. z *ℤ k) (+ℤ_one m) ∙ suc_ℤ-*ℤ m k

mul-less : (m k : ℤ) → (m +ℤ negsuc 0) *ℤ k ≡ (m *ℤ k) +ℤ neg_ℤ k
mul-less m k = ap (λ z. z *ℤ k) (-ℤ_one m) ∙ pred_ℤ-*ℤ m k

sum_moved : (a b d : ℤ) → (a +ℤ d) +ℤ b ≡ (a +ℤ b) +ℤ d
sum_moved a b d = omega (arith, ints)

-- what is said of one factor is said of the next, where both sides grow by d
stepped : (x y x' y' z d : ℤ) → x ≡ y +ℤ z → y' ≡ y +ℤ d → x' ≡ x +ℤ d → x' ≡ y' +ℤ z
stepped x y x' y' z d h e f = omega (arith, ints)

-- a sum times c
pub add-mul : (a b c : ℤ) → (a +ℤ b) *ℤ c ≡ (a *ℤ c) +ℤ (b *ℤ c)
add-mul a b c = ℤ_ind (λ a. (a +ℤ b) *ℤ c ≡ (a *ℤ c) +ℤ (b *ℤ c)) start up down a
  where
    start : (pos 0 +ℤ b) *ℤ c ≡ (pos 0 *ℤ c) +ℤ (b *ℤ c)
    start = ap (λ z. z *ℤ c) (+ℤ_idl b) ∙ sym (+ℤ_idl (b *ℤ c)) ∙ ap (λ z. z +ℤ (b *ℤ c)) (sym (zero-*ℤ c))

    up : (n : ℕ) → (pos n +ℤ b) *ℤ c ≡ (pos n *ℤ c) +ℤ (b *ℤ c) → ((pos n +ℤ pos 1) +ℤ b) *ℤ c ≡ ((pos n +ℤ pos 1) *ℤ c) +ℤ (b *ℤ c)
    up n h = stepped ((pos n +ℤ b) *ℤ c) (pos n *ℤ c) _ _ (b *ℤ c) c h (mul-more (pos n) c) (ap (λ z. z *ℤ c) (sum_moved (pos n) b (pos 1)) ∙ mul-more (pos n +ℤ b) c)

    down : (n : ℕ) → (neg_ℤ (pos n) +ℤ b) *ℤ c ≡ (neg_ℤ (pos n) *ℤ c) +ℤ (b *ℤ c) → ((neg_ℤ (pos n) +ℤ neg_ℤ (pos 1)) +ℤ b) *ℤ c ≡ ((neg_ℤ (pos n) +ℤ neg_ℤ (pos 1)) *ℤ c) +ℤ (b *ℤ c)
    down n h = stepped ((neg_ℤ (pos n) +ℤ b) *ℤ c) (neg_ℤ (pos n) *ℤ c) _ _ (b *ℤ c) (neg_ℤ c) h (mul-less (neg_ℤ (pos n)) c) (ap (λ z. z *ℤ c) (sum_moved (neg_ℤ (pos n)) b (negsuc 0)) ∙ mul-less (neg_ℤ (pos n) +ℤ b) c)

-- k times a sum
pub mul-add : (k a b : ℤ) → k *ℤ (a +ℤ b) ≡ (k *ℤ a) +ℤ (k *ℤ b)
mul-add k a b = *ℤ_comm k (a +ℤ b) ∙ add-mul a b k ∙ ap (λ z. z +ℤ (b *ℤ k)) (*ℤ_comm a k) ∙ ap (λ z. (k *ℤ a) +ℤ z) (*ℤ_comm b k)

pub one-mul : (a : ℤ) → pos 1 *ℤ a ≡ a
one-mul a = omega (arith, ints)

pub minus_one-mul : (a : ℤ) → negsuc 0 *ℤ a ≡ neg_ℤ a
minus_one-mul a = omega (arith, ints)

pub neg-mul : (a b : ℤ) → neg_ℤ a *ℤ b ≡ neg_ℤ (a *ℤ b)
neg-mul a b = omega (arith, ints, sym (add-mul a (neg_ℤ a) b) ∙ ap (λ z. z *ℤ b) (+ℤ_invr a) ∙ zero-*ℤ b)

pub mul_assoc : (a b c : ℤ) → (a *ℤ b) *ℤ c ≡ a *ℤ (b *ℤ c)
mul_assoc a b c = ℤ_ind (λ a. (a *ℤ b) *ℤ c ≡ a *ℤ (b *ℤ c)) start up down a
  where
    start : (pos 0 *ℤ b) *ℤ c ≡ pos 0 *ℤ (b *ℤ c)
    start = ap (λ z. z *ℤ c) (zero-*ℤ b) ∙ zero-*ℤ c ∙ sym (zero-*ℤ (b *ℤ c))

    up : (n : ℕ) → (pos n *ℤ b) *ℤ c ≡ pos n *ℤ (b *ℤ c) → ((pos n +ℤ pos 1) *ℤ b) *ℤ c ≡ (pos n +ℤ pos 1) *ℤ (b *ℤ c)
    up n h = ap (λ z. z *ℤ c) (mul-more (pos n) b) ∙ add-mul (pos n *ℤ b) b c ∙ ap (λ z. z +ℤ (b *ℤ c)) h ∙ sym (mul-more (pos n) (b *ℤ c))

    down : (n : ℕ) → (neg_ℤ (pos n) *ℤ b) *ℤ c ≡ neg_ℤ (pos n) *ℤ (b *ℤ c) → ((neg_ℤ (pos n) +ℤ neg_ℤ (pos 1)) *ℤ b) *ℤ c ≡ (neg_ℤ (pos n) +ℤ neg_ℤ (pos 1)) *ℤ (b *ℤ c)
    down n h = ap (λ z. z *ℤ c) (mul-less (neg_ℤ (pos n)) b) ∙ add-mul (neg_ℤ (pos n) *ℤ b) (neg_ℤ b) c ∙ ap (λ z. z +ℤ (neg_ℤ b *ℤ c)) h ∙ ap (λ z. (neg_ℤ (pos n) *ℤ (b *ℤ c)) +ℤ z) (neg-mul b c) ∙ sym (mul-less (neg_ℤ (pos n)) (b *ℤ c))

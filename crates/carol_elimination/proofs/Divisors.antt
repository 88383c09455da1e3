-- Greatest common divisors.
use Prim.Native.Nat.{◌∣◌}
use Rattle.std.proofs.Common.{ℕ, zero, suc, ◌<◌, ◌≤◌, ◌%◌, ◌≡◌, max, refl, arith}
use Rattle.std.specs.Int.{IsGcd}
use Rattle.std.proofs.Math.Nat.{mod-lt, eq-zero_of_zero-dvd}
use Rattle.std.proofs.lemmas.Nat.Gcd.{IsGcd-from_zero, IsGcd-from_mod, le_of_dvd}
use Rattle.carol_elimination.specs.Tightened.{divisor_within, divisor}

IsGcd-divisor_within : (n a b : ℕ) → b < n → IsGcd a b (divisor_within n a b)
IsGcd-divisor_within zero a b h = absurd (omega arith)
IsGcd-divisor_within (suc n) a zero h = IsGcd-from_zero a 0 refl
IsGcd-divisor_within (suc n) a (suc b) h =
    let less : a % suc b < suc b = mod-lt a (omega arith) in
    IsGcd-from_mod a (suc b) _ (IsGcd-divisor_within n (suc b) (a % suc b) (omega arith))

pub IsGcd-divisor : (a b : ℕ) → IsGcd a b (divisor a b)
IsGcd-divisor a b = IsGcd-divisor_within (suc b) a b (omega arith)

pub divisor-positive : (a b : ℕ) → 0 < a → 0 < divisor a b
divisor-positive a b h = from (divisor a b) (IsGcd-divisor a b).0
  where
    from : (g : ℕ) → g ∣ a → 0 < g
    from zero d = absurd (let none : a ≡ 0 = eq-zero_of_zero-dvd d in omega arith)
    from (suc g) d = omega arith

pub divisor-le : (a b : ℕ) → divisor a b ≤ max a b
divisor-le zero zero = omega arith
divisor-le zero (suc b) = let le : divisor 0 (suc b) ≤ suc b = le_of_dvd (omega arith) (IsGcd-divisor 0 (suc b)).1 in omega (arith, le)
divisor-le (suc a) b = let le : divisor (suc a) b ≤ suc a = le_of_dvd (omega arith) (IsGcd-divisor (suc a) b).0 in omega (arith, le)

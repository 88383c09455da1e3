-- How many assignments there are.
use Rattle.std.proofs.Common.{◌≡◌, ◌<◌, ◌≤◌, ◌+◌, ◌*◌, ℕ, zero, suc, true, false, ap, sym, subst, refl, ◌∙◌, add-one, arith}
use Rattle.std.specs.Prelude.{◌^◌, ◌↔◌, IsTrue}
use Rattle.std.proofs.Math.Nat.{pow-le-pow_right, mul-le-mul, pow-suc}

-- once there are too many, more slots change nothing
pub too_many : (guards done slots most : ℕ) → done ≤ slots → most < guards ^ done → 0 < most → most < guards ^ slots
too_many zero zero slots most few many some = absurd (omega arith)
too_many zero (suc done) slots most few many some = absurd (let none = pow-suc 0 done in omega (arith, none))
too_many (suc guards) done slots most few many some =
    let more = pow-le-pow_right {n = suc guards} (omega arith) {i = done} {j = slots} few in omega (arith, more)

-- one more slot
pub one_more : (guards done count : ℕ) → count ≡ guards ^ done → count * guards ≡ guards ^ (done + 1)
one_more guards done count is = ap (λ n. n * guards) is ∙ (sym (pow-suc guards done) ∙ ap (λ n. guards ^ n) (sym (add-one done)))

-- ---- the answers

false_true : false ≡ true → ⊥
false_true e = cc

pub few_slots : (guards done slots count : ℕ) → count ≡ guards ^ done → done ≤ slots → slots ≤ done → count ≤ 4096 → IsTrue true ↔ (guards ^ slots ≤ 4096)
few_slots guards done slots count is low high few =
    let same : done ≡ slots = omega arith in
    let all : count ≡ guards ^ slots = is ∙ ap (λ n. guards ^ n) same in
    ((λ t. subst (λ n. n ≤ 4096) all few), (λ h. refl))

pub many_slots : (guards done slots count : ℕ) → count ≡ guards ^ done → done < slots → 4096 < count * guards → IsTrue false ↔ (guards ^ slots ≤ 4096)
many_slots guards done slots count is more many =
    let now : 4096 < guards ^ (done + 1) = subst (λ n. 4096 < n) (one_more guards done count is) many in
    let all : 4096 < guards ^ slots = too_many guards (done + 1) slots 4096 (omega arith) now (omega arith) in
    ((λ t. absurd (false_true t)), (λ h. absurd (omega (arith, all, h))))

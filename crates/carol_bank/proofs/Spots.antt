-- Nothing that is asked of the bank's operations can fail, or stay open.
use Rattle.std.proofs.Common.{ℕ, false, inl, inr, refl, lit≤, arith}
use Rattle.std.specs.Prelude.{ℤ, pos, negsuc}
use Rattle.std.specs.List.{AllByRecursion}
use Rattle.std.proofs.lemmas.Int.{ints}
use Rattle.carol_formula.specs.Claim.{without_not}
use Rattle.carol_decide.specs.Answer.{IsStuck}
use Rattle.carol_decide.specs.declared.answer.Why.{Why}
use Rattle.carol_difference.specs.Rows.{IsUnit, AreOpposite}
use Rattle.carol_obligation.specs.Formed.{obligation_at}
use Rattle.carol_obligation.specs.Places.{sites_of}
use Rattle.carol_obligation.specs.Sites.{Site}
use Rattle.carol_meaning.specs.Programs.{rules_of}
use Rattle.carol_program.specs.Rules.{Rules, OpRules}
use Rattle.carol_generator.specs.Generated.{bank}
use Rattle.carol_bank.proofs.Meant.{Meant}
use Rattle.carol_bank.proofs.Closed.{sum_closed}

-- the formula of the place is false of nothing, and its decision doesn't stay open
pub record IsSettled (p : Rules) (op : OpRules) (site : Site) : Type 0 where
  pub holds : (f : ℕ → ℤ) → Meant (obligation_at p op site) false f → ⊥
  pub closed : (why : Why) → IsStuck (without_not false (obligation_at p op site)) why → ⊥

abbrev pub AreSettled : Rules → OpRules → Type 0
AreSettled p op = AllByRecursion (IsSettled p op) (sites_of p op)

is_one : IsUnit (pos 1)
is_one = inl refl

is_less : IsUnit (negsuc 0)
is_less = inr refl

rise : AreOpposite (pos 1) (negsuc 0)
rise = inl (refl, refl)

fall : AreOpposite (negsuc 0) (pos 1)
fall = inr (refl, refl)

pub all_settled : AllByRecursion (AreSettled (rules_of bank)) (rules_of bank).ops
all_settled = (
  (
    record { holds = λ f h. elim h.1 [ inl e ↦ omega (arith, ints) | inr e ↦ omega (arith, ints) ]; closed = λ why s. s.beyond (((((tt, (is_less, is_one)), rise), rise), is_less), (is_one, is_less)) (lit≤ tt) },
    (
      record { holds = λ f h. omega (arith, ints); closed = λ why s. s.beyond (((((tt, (is_less, is_one)), rise), rise), is_less), fall) (lit≤ tt) },
      (
        record { holds = λ f h. elim h.1 [ inl e ↦ omega (arith, ints) | inr e ↦ omega (arith, ints) ]; closed = λ why s. s.beyond ((((((tt, (is_less, is_one)), rise), rise), is_less), is_less), (is_one, tt)) (lit≤ tt) },
        (record { holds = λ f h. elim h.1 [ inl e ↦ omega (arith, ints) | inr e ↦ omega (arith, ints) ]; closed = λ why s. s.beyond (((((tt, (is_less, is_one)), rise), fall), is_less), (tt, is_one)) (lit≤ tt) }, tt),
      ),
    ),
  ),
  (
    (
      record { holds = λ f h. elim h.1 [ inl e ↦ omega (arith, ints) | inr e ↦ omega (arith, ints) ]; closed = λ why s. s.beyond (((tt, (is_less, is_one)), is_less), (is_less, is_one)) (lit≤ tt) },
      (
        record { holds = λ f h. omega (arith, ints); closed = λ why s. sum_closed why s.kept },
        (record { holds = λ f h. elim h.1 [ inl e ↦ omega (arith, ints) | inr e ↦ omega (arith, ints) ]; closed = λ why s. s.beyond (((tt, (is_less, is_one)), is_less), tt) (lit≤ tt) }, tt),
      ),
    ),
    tt,
  ),
)

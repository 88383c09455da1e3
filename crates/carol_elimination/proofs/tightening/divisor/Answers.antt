use Rattle.std.proofs.Common.{ℕ, ◌≡◌}
use Rattle.std.specs.Int.{IsGcd}
use Rattle.carol_elimination.specs.Tightened.{divisor}
use Rattle.std.proofs.lemmas.Nat.Gcd.{IsGcd-from_mod, IsGcd-from_zero, same_from_IsGcd}
use Rattle.carol_elimination.proofs.Divisors.{IsGcd-divisor, divisor-positive, divisor-le}
use Rattle.carol_elimination.proofs.tightening.divisor.Goals as goal

pub loop-rest-preserved : goal.loop-rest-preserved
loop-rest-preserved c = λ g h. c.loop-rest.invariant g (IsGcd-from_mod c.loop-rest.last c.loop-rest.rest g h)

same : (a b last rest : ℕ) → ((g : ℕ) → IsGcd last rest g → IsGcd a b g) → rest ≡ 0 → last ≡ divisor a b
same a b last rest h e = same_from_IsGcd a b _ _ (h last (IsGcd-from_zero last rest e)) (IsGcd-divisor a b)

pub returns : goal.returns
returns c =
    let value = same c.args.a c.args.b c.loop-rest.last c.loop-rest.rest c.loop-rest.invariant c.loop-rest-test.false in
    record {
      value = value;
      greatest = c.loop-rest.invariant c.loop-rest.last (IsGcd-from_zero c.loop-rest.last c.loop-rest.rest c.loop-rest-test.false);
      positive = λ h. rw value (divisor-positive c.args.a c.args.b h);
      bounded = rw value (divisor-le c.args.a c.args.b);
    }

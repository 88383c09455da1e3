use Rattle.std.proofs.Common.{ℕ, ◌≡◌, ◌+◌, ◌-◌, sym, ◌∙◌, subst, arith}
use Rattle.carol_elimination.specs.Due.{IsDueFor}
use Rattle.carol_linear.specs.State.{all_rows}
use Rattle.carol_linear.proofs.Climbing.{at_low, low_falls}
use Rattle.carol_linear.proofs.state.State.split.Goals as goal

pub returns-clause-next : goal.returns-clause-next
returns-clause-next c start h due =
    let s = c.args.self.now in
    let turn : s.left ≡ (s.left - 1) + 1 = omega arith in
    let entered = c.in_ok-enter.ensures in
    let last = subst (λ (x : ℕ). IsDueFor (all_rows start s) x entered.last.k) (sym entered.same.variable) (subst (IsDueFor (all_rows start s) c.args.frame.variable) (sym entered.same.k) due) in
    at_low start s c.enter.new.self (s.left - 1) entered.last h turn last (entered.same.low ∙ c.requires.low) entered.enters

pub returns-clause-falls : goal.returns-clause-falls
returns-clause-falls c =
    let s = c.args.self.now in
    let turn : s.left ≡ (s.left - 1) + 1 = omega arith in
    let entered = c.in_ok-enter.ensures in
    low_falls s c.enter.new.self (s.left - 1) entered.last turn (entered.same.low ∙ c.requires.low) entered.enters

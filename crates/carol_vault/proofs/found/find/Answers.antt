use Rattle.std.proofs.Common.{◌≡◌, ◌≤◌, true, false, List, length, take, drop, min, sym, ◌∙◌, ap, subst, arith, rules}
use Rattle.std.proofs.lemmas.Bool.Decides.{nat_tests}
use Rattle.carol_event.specs.declared.event.Event.{Event}
use Rattle.carol_history.specs.declared.history.TheConstants.{MOST_EVENTS}
use Rattle.carol_audit.specs.Rulings as Rulings
use Rattle.carol_vault.specs.declared.found.Found.{Found}
use Rattle.carol_vault.specs.Finding.{IsClosed, Tells}
use Rattle.carol_vault.proofs.Founds.{told}
use Rattle.carol_vault.proofs.found.find.Goals as goal

pub returns : goal.returns
returns c =
    let events = c.in_ok-image.image.events.items in
    let few = c.min-few.result in
    let kept = c.args.accepted in
    let same : c.as_slice-events.result.now ≡ events = c.as_slice-events.ensures.value in
    let few_is : few ≡ min (length events) MOST_EVENTS = omega (arith, ap length same) in
    let some : c.is_empty.result ≡ false → 1 ≤ length c.split_at.result.1.now = λ no. grind (arith, nat_tests) in
    let none : c.is_empty.result ≡ true → length c.split_at.result.1.now ≡ 0 = λ yes. grind (arith, nat_tests) in
    let front : c.split_at.result.0.now ≡ take few events = c.split_at.ensures.front ∙ ap (λ (l : List Event). take few l) same in
    let back : c.split_at.result.1.now ≡ drop few events = c.split_at.ensures.back ∙ ap (λ (l : List Event). drop few l) same in
    let closed : IsClosed c.args.bytes.now (drop c.in_ok-image.image.end c.args.bytes.now) = c.is_closed.ensures.closed (search rules) in
    let first : Rulings.Tells kept c.args.scene (take few events) c.in_ok-ruling.ruling =
    subst (λ (l : List Event). Rulings.Tells kept c.args.scene l c.in_ok-ruling.ruling) front c.in_ok-ruling.ensures in
    subst (λ (f : Found). Tells kept c.args.scene c.args.bytes.now f) (sym c.found_of.ensures)
    (told kept c.args.scene c.args.bytes.now events c.in_ok-image.image.end few few_is c.in_ok-image.ensures.read closed
    c.in_ok-ruling.ruling c.split_at.result.1.now c.is_empty.result back none some c.in_ok-image.ensures.end_is first)

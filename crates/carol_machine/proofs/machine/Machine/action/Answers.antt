use Rattle.std.proofs.Common.{◌≡◌, sym, subst}
use Rattle.std.specs.Prelude.{Some, slice_get}
use Rattle.carol_program.specs.Rules.{rules_in}
use Rattle.carol_reading.specs.Nexts.{IsNextOf}
use Rattle.carol_machine.specs.States.{SessionState}
use Rattle.carol_machine.specs.Wishes.{IsInOrder, IsWishOf, StandsWell}
use Rattle.carol_machine.proofs.Wishing.{is_wish}
use Rattle.carol_machine.proofs.machine.Machine.action.Goals as goal

pub next_action-next-requires : goal.next_action-next-requires
next_action-next-requires c =
    let well = subst (λ (m : SessionState). StandsWell (rules_in c.args.accepted.now.program) m) (sym c.self.view_is) c.requires
    in well c.in-Some.command.now (sym c.in-Some.ensures.value)

pub returns : goal.returns
returns c done at reads =
    let m : SessionState = c.args.self.now
    in let there = subst (λ (m : SessionState). slice_get m.plan.commands m.at.command ≡ Some c.in-Some.command.now) c.self.view_is (sym c.in-Some.ensures.value)
    in let next = subst (λ (m : SessionState). IsNextOf (rules_in c.args.accepted.now.program) c.in-Some.command.now m.walk c.next_action-next.result) c.self.view_is c.next_action-next.ensures
    in let order = subst IsInOrder c.wish.ensures.is c.wish.ensures.ascends
    in subst (IsWishOf (rules_in c.args.accepted.now.program) m.plan m.tries done) (sym c.wish.ensures.is)
    (is_wish (rules_in c.args.accepted.now.program) c.program-program.ensures.kept.well_formed.rules c.program-program.ensures.kept.accepted c.in-Some.command.now m there (c.requires c.in-Some.command.now there) c.next_action-next.result next order done at reads)

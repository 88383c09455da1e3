use Rattle.std.proofs.Common.{◌≡◌, List, [], ◌++◌, map, refl, sym, subst}
use Rattle.carol_store.specs.declared.direction.Direction.{Direction}
use Rattle.carol_accord.specs.Inferred.{step_of, steps_before}
use Rattle.carol_accord.proofs.Listed.{stepped_on, stepped_end}
use Rattle.carol_accord.proofs.steps.push_steps.Goals as goal

pub loop-up-init : goal.loop-up-init
loop-up-init c = rw c.ways-left.ensures refl

pub loop-up-preserved : goal.loop-up-preserved
loop-up-preserved c =
    let whole : List Direction = c.args.steps.now.items ++ steps_before c.args.cell c.args.kind [] in
    let on = stepped_on c.loop-up.steps.items c.args.cell c.in-Some.up.now c.loop-up.left.now c.in-Some.more.now whole c.in-Some.ensures.cases.0 c.loop-up.invariant in
    subst (λ (items : List Direction). items ++ (map (step_of c.args.cell) c.in-Some.more.now ++ []) ≡ whole) (sym c.in_ok-push.ensures.items) on

pub returns : goal.returns
returns c = stepped_end c.loop-up.steps.items c.args.cell c.loop-up.left.now (c.args.steps.now.items ++ steps_before c.args.cell c.args.kind []) c.in_default.ensures.cases c.loop-up.invariant

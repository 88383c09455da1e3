use Rattle.std.proofs.Common.{◌≡◌, rules}
use Rattle.carol_syntax.specs.declared.bodies.Body.{the_lemmas}
use Rattle.carol_syntax.specs.Formulas.{formula_tree}
use Rattle.carol_syntax.specs.Bodies.{Return, If, body_tree}
use Rattle.carol_resolve.proofs.Branches.{return-faults, branch-faults}
use Rattle.carol_resolve.proofs.Places.{return-place, return-room, branch-place, branch-room, first-room, second-room}
use Rattle.carol_resolve.proofs.bodies.+body_at.Goals as goal

pub returned-requires-clause-number : goal.returned-requires-clause-number
returned-requires-clause-number t c =
    let tree : body_tree c.args.body.now ≡ Return c.as_slice.result.now c.in-Return.value = search (rules, the_lemmas) in
    return-room c.args.around.now c.args.at.now _ c.as_slice.result.now c.in-Return.value _ tree c.in_ok-heads.ensures.place c.requires.number

pub pass-requires : goal.pass-requires
pass-requires t c =
    let tree : body_tree c.args.body.now ≡ If c.as_slice.result.now (formula_tree c.in-If.condition) (body_tree c.in-If.yes) (body_tree c.in-If.no) = search (rules, the_lemmas) in
    branch-room c.args.around.now c.args.at.now _ c.as_slice.result.now (formula_tree c.in-If.condition) (body_tree c.in-If.yes) (body_tree c.in-If.no) _ tree c.in_ok-heads.ensures.place c.requires.number

pub body_at-requires : goal.body_at-requires
body_at-requires t c =
    let tree : body_tree c.args.body.now ≡ If c.as_slice.result.now (formula_tree c.in-If.condition) (body_tree c.in-If.yes) (body_tree c.in-If.no) = search (rules, the_lemmas) in (
      search (rules, the_lemmas),
      (
        search (rules, the_lemmas),
        (
          search (rules, the_lemmas),
          first-room c.args.around.now c.args.at.now _ _ c.as_slice.result.now (formula_tree c.in-If.condition) (body_tree c.in-If.yes) (body_tree c.in-If.no) _ tree c.in_ok-heads.ensures.place c.pass.ensures c.requires.number,
        ),
      ),
    )

pub body_at-requires-in-If : goal.body_at-requires-in-If
body_at-requires-in-If t c =
    let tree : body_tree c.args.body.now ≡ If c.as_slice.result.now (formula_tree c.in-If.condition) (body_tree c.in-If.yes) (body_tree c.in-If.no) = search (rules, the_lemmas) in (
      search (rules, the_lemmas),
      (
        search (rules, the_lemmas),
        (
          search (rules, the_lemmas),
          second-room c.args.around.now c.args.at.now _ _ _ c.as_slice.result.now (formula_tree c.in-If.condition) (body_tree c.in-If.yes) (body_tree c.in-If.no) _ tree c.in_ok-heads.ensures.place c.pass.ensures c.in_ok-first-in-If.ensures.place c.requires.number,
        ),
      ),
    )

pub returns-in_ok-whole-in-Return-clause-faults : goal.returns-in_ok-whole-in-Return-clause-faults
returns-in_ok-whole-in-Return-clause-faults t c =
    let tree : body_tree c.args.body.now ≡ Return c.as_slice.result.now c.in-Return.value = search (rules, the_lemmas) in
    return-faults c.args.around.now c.args.at.now _ c.as_slice.result.now c.in-Return.value _ _ _ _ tree c.in_ok-heads.ensures.place c.in_ok-heads.ensures.faults c.in_ok-last-in-Return.ensures.faults

pub returns-in_ok-whole-in-Return-clause-place : goal.returns-in_ok-whole-in-Return-clause-place
returns-in_ok-whole-in-Return-clause-place t c =
    let tree : body_tree c.args.body.now ≡ Return c.as_slice.result.now c.in-Return.value = search (rules, the_lemmas) in
    return-place c.args.around.now c.args.at.now _ _ _ c.as_slice.result.now c.in-Return.value _ c.names-names.result tree c.names-names.ensures c.in_ok-heads.ensures.place c.in_ok-last-in-Return.ensures.place c.leave.ensures

pub returns-in_ok-whole-in-If-clause-faults : goal.returns-in_ok-whole-in-If-clause-faults
returns-in_ok-whole-in-If-clause-faults t c =
    let tree : body_tree c.args.body.now ≡ If c.as_slice.result.now (formula_tree c.in-If.condition) (body_tree c.in-If.yes) (body_tree c.in-If.no) = search (rules, the_lemmas) in
    branch-faults c.args.around.now c.args.at.now _ _ _ c.as_slice.result.now (formula_tree c.in-If.condition) (body_tree c.in-If.yes) (body_tree c.in-If.no) _ _ _ _ _ _ tree c.in_ok-heads.ensures.place c.pass.ensures c.in_ok-first-in-If.ensures.place
    c.in_ok-heads.ensures.faults c.in_ok-test-in-If.ensures.faults c.in_ok-first-in-If.ensures.faults c.in_ok-second-in-If.ensures.faults

pub returns-in_ok-whole-in-If-clause-place : goal.returns-in_ok-whole-in-If-clause-place
returns-in_ok-whole-in-If-clause-place t c =
    let tree : body_tree c.args.body.now ≡ If c.as_slice.result.now (formula_tree c.in-If.condition) (body_tree c.in-If.yes) (body_tree c.in-If.no) = search (rules, the_lemmas) in
    branch-place c.args.around.now c.args.at.now _ _ _ _ _ c.as_slice.result.now (formula_tree c.in-If.condition) (body_tree c.in-If.yes) (body_tree c.in-If.no) _ c.names-names.result tree c.names-names.ensures c.in_ok-heads.ensures.place c.pass.ensures c.in_ok-first-in-If.ensures.place c.in_ok-second-in-If.ensures.place c.leave-in-If.ensures

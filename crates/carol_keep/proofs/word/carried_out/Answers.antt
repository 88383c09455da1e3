use Rattle.std.proofs.Common.{subst}
use Rattle.carol_keep.specs.Keep.{IsKept, ScriptKeeps}
use Rattle.carol_keep.proofs.Ended.{ends_none, kept_said}
use Rattle.carol_keep.proofs.word.carried_out.Goals as goal
use Rattle.carol_program.specs.declared.scenes.Scene.{Scene}
use Rattle.carol_reply.specs.Reply.{answer_of}

pub returns : goal.returns
returns g c =
    let house = c.in_ok-house.house in
    let answer = answer_of c.in_ok-keep.field-0 in
    let script = c.args.script.now in
    kept_said (λ kept. IsKept c.args.stop script kept c.args.placed.scene) c.args.placed.program c.in_ok-accepted.accepted house.kept answer
    c.in_ok-accepted.ensures.kept c.in_ok-house.ensures.kept
    (subst (λ (s : Scene). IsKept c.args.stop script house.kept s answer) c.in_ok-house.ensures.scene c.in_ok-keep.ensures)

pub returns-in_err-keep : goal.returns-in_err-keep
returns-in_err-keep g c =
    ends_none (ScriptKeeps c.args.stop c.args.script.now c.args.placed.program c.args.placed.scene) c.from_residual-in_err-keep.result c.from_residual-in_err-keep.ensures.1

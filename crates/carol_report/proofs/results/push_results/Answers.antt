use Rattle.std.proofs.Common.{◌<◌, length}
use Rattle.carol_report.proofs.Sessions.{commands_low, planned}
use Rattle.carol_report.proofs.results.push_results.Goals as goal

pub overflow_cast-len : goal.overflow_cast-len
overflow_cast-len c =
    let scene = c.args.house.now.scene
    in let inside : c.loop-session.session < length scene.sessions = rw (c.as_slice-plan-items.ensures, c.scene.ensures.scene) at c.loop-session-test.true
    in let read = rw (c.as_slice-plan-items.ensures, c.scene.ensures.scene) at c.plan-item.is
    in rw c.len.ensures (commands_low _ scene c.loop-session.session c.plan-item.result c.scene.ensures.valid inside read)

pub push_commands-requires : goal.push_commands-requires
push_commands-requires c =
    let scene = c.args.house.now.scene
    in let inside : c.loop-session.session < length scene.sessions = rw (c.as_slice-plan-items.ensures, c.scene.ensures.scene) at c.loop-session-test.true
    in let read = rw (c.as_slice-plan-items.ensures, c.scene.ensures.scene) at c.plan-item.is
    in rw c.len.ensures (planned scene c.loop-session.session c.plan-item.result inside read)

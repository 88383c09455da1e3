-- What the threads capture may go to them.
use Rattle.std.proofs.Crossing.{crosses}
use denote.Param.Send.{param_send, sendable}
use Rattle.carol_worker.proofs.roster.Roster.TheSendSync.{the_sync as roster_sync}
use Rattle.carol_worker.proofs.roster.Taker.TheSendSync.{the_send as taker_send}
use Rattle.carol_worker.proofs.threads.fn.run_threads.scope.Lts as lts
use Rattle.carol_worker.proofs.threads.fn.run_threads.scope.Goals as goal

pub spawn-worker-requires-send-F : goal.spawn-worker-requires-send-F
spawn-worker-requires-send-F g c = λ κs lives.
    param_send 1 (lts.arg-2-1 g.row.R g.row.H g.row.G g.R.laws g.H.laws g.G.laws g.R.Threads-dict g.R.Wait-dict g.H.AtHouse-dict g.G.Gate-dict κs)
    (search (sendable, crosses, roster_sync, taker_send) depth 40 fits 100000)

pub spawn-gossiper-requires-send-F : goal.spawn-gossiper-requires-send-F
spawn-gossiper-requires-send-F g c = λ κs lives.
    search (sendable, crosses) depth 40 fits 100000

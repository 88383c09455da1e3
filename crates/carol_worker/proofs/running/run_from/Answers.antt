use Rattle.std.proofs.Crossing.{crosses}
use denote.Param.Send.{sendable}
use Rattle.carol_worker.proofs.Crossing.{house_send}
use Rattle.carol_worker.proofs.running.run_from.Goals as goal

pub run_threads-requires-after_bounds : goal.run_threads-requires-after_bounds
run_threads-requires-after_bounds g c = λ κs lives k d within. (c.in_ok-roster.ensures.new k d within).0

-- the house with what names its start may go to the threads
pub run_threads-requires-send-H : goal.run_threads-requires-send-H
run_threads-requires-send-H g c κs within = search (sendable, crosses, house_send) depth 40 fits 100000

use Rattle.std.proofs.Common.{◌≡◌, ◌+◌, All, [], true, length}
use Rattle.crossbeam_queue.specs.Passes.{IsPassOf, view as hand_of}
use Rattle.carol_worker.specs.Hands.{maker}
use Rattle.carol_worker.specs.Rosters.{IsNewOf}
use Rattle.carol_worker.proofs.roster.Roster.new.Given as goal

abbrev pub invariant-loop-session : goal.invariant-loop-session
invariant-loop-session g l =
    IsPassOf l.line l.pass × (hand_of l.pass ≡ maker l.session)

abbrev pub invariant-loop-taker : goal.invariant-loop-taker
invariant-loop-taker g l =
    IsPassOf l.line l.pass × ((hand_of l.pass).count ≡ l.sessions) × ((hand_of l.pass).taken ≡ [])
    × (l._taker ≡ 1 → (hand_of l.pass).alone ≡ true)
    × (length l.list.items + 1 ≡ l._taker)
    × All (IsNewOf (record { table = l.line.table.shared.table_id; count = l.sessions })) l.list.items

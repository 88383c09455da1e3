-- Where things stand in an image.
use Rattle.std.specs.Prelude.{ℕ, ◌+◌, ◌*◌, ◌==◌, nat_lt, List, take, count_by, slice_get}
use Rattle.std.specs.Option.{option_map_or}
use Rattle.carol_program.specs.declared.scenes.SessionPlan.{SessionPlan}

-- the most events that are drawn
abbrev pub most_drawn : ℕ
most_drawn = 2_000

-- how many sessions stand at replicas of lower numbers, and how many at the replica
abbrev pub sessions_below : List SessionPlan → ℕ → ℕ
sessions_below plans replica = count_by (λ plan. nat_lt plan.replica replica) plans

abbrev pub sessions_at : List SessionPlan → ℕ → ℕ
sessions_at plans replica = count_by (λ plan. plan.replica == replica) plans

-- the replica at which the session stands
abbrev pub home_of : List SessionPlan → ℕ → ℕ
home_of plans session = option_map_or (λ plan. plan.replica) (slice_get plans session) 0

-- where the lane of a replica begins, how wide it is, and where the replica stands in it
abbrev pub lane_x : List SessionPlan → ℕ → ℕ
lane_x plans replica = 56 + 72 * replica + 24 * sessions_below plans replica

abbrev pub lane_width : List SessionPlan → ℕ → ℕ
lane_width plans replica = 28 + 24 * sessions_at plans replica

abbrev pub replica_x : List SessionPlan → ℕ → ℕ
replica_x plans replica = lane_x plans replica + 12

-- the column of a session, behind those of lower numbers at the same replica
abbrev pub session_x : List SessionPlan → ℕ → ℕ
session_x plans session =
    lane_x plans (home_of plans session) + 36
    + 24 * sessions_at (take session plans) (home_of plans session)

-- the row of an event, of which the first has number 0
abbrev pub row_y : ℕ → ℕ
row_y row = 84 + 20 * row

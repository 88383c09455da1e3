-- What a roster and its takers are to their callers.
use Rattle.std.specs.Prelude.{◌≡◌, ◌≤◌, ℕ, Bool, true, List, [], ◌∷◌, ◌++◌}
use Rattle.atomic_table.specs.Seated.{TableId}
use Rattle.carol_worker.specs.declared.rule.Hand.{Hand}
use Rattle.carol_worker.specs.Hands.{HasAll, times}

-- which queue it is, and how many sessions were put in
pub record Roster : Type 0 where
  pub table : TableId
  pub count : ℕ

-- of which queue it is, how many sessions were put in before it was made, whether it is the only
-- taker, and the sessions that it took, in order
pub record Taker : Type 0 where
  pub table : TableId
  pub count : ℕ
  pub alone : Bool
  pub taken : List ℕ

-- what a pass on the queue is as a taker
abbrev pub taker_of : TableId → Hand → Taker
taker_of table hand =
    record { table = table; count = hand.count; alone = hand.alone; taken = hand.taken }

-- it is a taker of the roster, made once the roster's sessions were put in
pub record IsOf (roster : Roster) (taker : Taker) : Type 0 where
  pub table : taker.table ≡ roster.table
  pub count : taker.count ≡ roster.count

-- one that took nothing yet
abbrev pub IsNewOf : Roster → Taker → Type 0
IsNewOf roster taker = IsOf roster taker × (taker.taken ≡ [])

-- the taker once it took the session
abbrev pub with_session : Taker → ℕ → Taker
with_session taker session = record {
  table = taker.table;
  count = taker.count;
  alone = taker.alone;
  taken = taker.taken ++ session ∷ [];
}

-- nothing is left for the taker: it took no session twice, and if it is the only one, each session
pub record HasEnough (taker : Taker) : Type 0 where
  pub once : (session : ℕ) → times session taker.taken ≤ 1
  pub all : taker.alone ≡ true → HasAll taker.count taker.taken

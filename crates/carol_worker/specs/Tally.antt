-- What a desk counts.
use Rattle.std.specs.Prelude.{◌≡◌, ◌≤◌, ◌<◌, ◌+◌, ◌-◌, ◌^◌, ℕ, Option, Result, Ok, Err}
use Rattle.carol_house.specs.declared.moved.Moved.{Moved}
use Rattle.carol_house.specs.declared.moved.Moved.TheVariants as moved
use Rattle.carol_house.specs.declared.moved.Gossip.{Gossip}
use Rattle.carol_house.specs.declared.moved.Gossip.TheVariants as gossip
use Rattle.carol_house.specs.declared.error.HouseError.{HouseError}
use Rattle.carol_house.specs.declared.error.HouseError.TheVariants as error
use Rattle.carol_worker.specs.declared.tally.Answer.TheVariants as answer
use Rattle.carol_worker.specs.declared.tally.Answered.{Answered}
use Rattle.carol_worker.specs.declared.tally.Last.{Last}
use Rattle.carol_worker.specs.Answers.{step_of}

-- how many events were entered, how many steps found all commands of their session done, how many
-- found the history full, and the last step that had one of these answers
pub record Tally : Type 0 where
  pub entered : ℕ
  pub finished : ℕ
  pub full : ℕ
  pub last : Option Last

abbrev pub tally_of : ℕ → Answered → Tally
tally_of entered answered = record {
  entered = entered;
  finished = answered.finished;
  full = answered.full;
  last = answered.last;
}

-- the count rose by so many at least; where it stands at the last value of a 64-bit counter nothing
-- is said
abbrev pub RoseBy : ℕ → ℕ → ℕ → Type 0
RoseBy steps old new = new < 2 ^ 64 - 1 → old + steps ≤ new

abbrev pub Rose : ℕ → ℕ → Type 0
Rose old new = RoseBy 1 old new

-- no count fell
pub record NoneFell (old new : Tally) : Type 0 where
  pub entered : old.entered ≤ new.entered
  pub finished : old.finished ≤ new.finished
  pub full : old.full ≤ new.full

-- a step of the session has this answer: the count of that name rose, the others are as they were,
-- and it is the last; want of memory changes nothing
abbrev pub Stepped : Tally → ℕ → Result Moved HouseError → Tally → Type 0
Stepped old session (Ok (moved.Entered kind)) new =
    Rose old.entered new.entered × (new.finished ≡ old.finished) × (new.full ≡ old.full)
    × (new.last ≡ step_of session (answer.Entered kind))
Stepped old session (Ok moved.Finished) new =
    (new.entered ≡ old.entered) × Rose old.finished new.finished × (new.full ≡ old.full)
    × (new.last ≡ step_of session answer.Finished)
Stepped old session (Err error.Full) new =
    (new.entered ≡ old.entered) × (new.finished ≡ old.finished) × Rose old.full new.full
    × (new.last ≡ step_of session answer.Full)
Stepped old session (Err error.NoMemory) new = new ≡ old

-- a delivery raises the count of entered events; nothing else changes anything
abbrev pub Gossiped : Tally → Result Gossip HouseError → Tally → Type 0
Gossiped old (Ok (gossip.Delivered entry)) new =
    Rose old.entered new.entered × (new.finished ≡ old.finished) × (new.full ≡ old.full)
    × (new.last ≡ old.last)
Gossiped old (Ok gossip.NothingNew) new = new ≡ old
Gossiped old (Ok gossip.CutOff) new = new ≡ old
Gossiped old (Err failed) new = new ≡ old

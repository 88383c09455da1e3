-- What a step at a desk does to its house, whichever numbers it is asked for.
use Rattle.std.specs.Prelude.{◌≡◌, ◌≢◌, ◌⊎◌, ◌≤◌, ◌<◌, ℕ, length, Result, Ok, Err}
use Rattle.std.proofs.Common.{◌∙◌, refl}
use Rattle.carol_history.specs.Acts.{acts}
use Rattle.carol_history.specs.Legal.{MayLink}
use Rattle.carol_house.specs.House.{House}
use Rattle.carol_house.specs.Moves.{Advances, FailsToAdvance, Gossips, FailsToGossip}
use Rattle.carol_house.specs.declared.moved.Moved.{Moved}
use Rattle.carol_house.specs.declared.moved.Moved.TheVariants as moved
use Rattle.carol_house.specs.declared.moved.Gossip.{Gossip}
use Rattle.carol_house.specs.declared.moved.Gossip.TheVariants as gossip
use Rattle.carol_house.specs.declared.error.HouseError.{HouseError}

-- what the house answers where it has the session
abbrev pub Moves : House → ℕ → Result Moved HouseError → House → Type 0
Moves old session (Ok moved) new = Advances old session moved new
Moves old session (Err error) new = FailsToAdvance old session error new

-- the answer is the house's; or the house has no such session, and the answer is that it is
-- finished
abbrev pub StepsIn : House → ℕ → Result Moved HouseError → House → Type 0
StepsIn old session given new =
    ((session < length old.scene.sessions) × Moves old session given new)
    ⊎ ((length old.scene.sessions ≤ session) × (given ≡ Ok moved.Finished) × (new ≡ old))

-- what the house answers where it has the two replicas
abbrev pub Passes : House → ℕ → ℕ → Result Gossip HouseError → House → Type 0
Passes old source target (Ok passed) new = Gossips old source target passed new
Passes old source target (Err error) new = FailsToGossip old source target error new

-- the answer is the house's; or it has no two such replicas, and the answer is that they are cut
-- off
abbrev pub GossipsIn : House → ℕ → ℕ → Result Gossip HouseError → House → Type 0
GossipsIn old source target given new =
    (MayLink old.scene source target × Passes old source target given new)
    ⊎ ((MayLink old.scene source target → ⊥) × (given ≡ Ok gossip.CutOff) × (new ≡ old))

-- what the other sessions did is what they had done before
abbrev pub OnlyActs : ℕ → House → House → Type 0
OnlyActs session old new =
    (other : ℕ) → other ≢ session → acts other new.history ≡ acts other old.history

pub only_acts_none : (session : ℕ) (house : House) → OnlyActs session house house
only_acts_none session house other apart = refl

pub only_acts_more : (session : ℕ) (old mid new : House) → OnlyActs session old mid → OnlyActs session mid new → OnlyActs session old new
only_acts_more session old mid new one more other apart = more other apart ∙ one other apart

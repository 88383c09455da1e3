-- What a step or a delivery does to a house.
use Rattle.std.proofs.Common.{◌≡◌, ℕ, Result, Ok, Err, [], refl, sym, subst, inl, inr}
use Rattle.carol_event.specs.declared.event.Event.TheVariants.{Deliver}
use Rattle.carol_house.specs.House.{House, Rests}
use Rattle.carol_house.specs.declared.moved.Moved.{Moved}
use Rattle.carol_house.specs.declared.moved.Moved.TheVariants as moved
use Rattle.carol_house.specs.declared.moved.Gossip.{Gossip}
use Rattle.carol_house.specs.declared.moved.Gossip.TheVariants as gossip
use Rattle.carol_house.specs.declared.error.HouseError.{HouseError}
use Rattle.carol_house.specs.declared.error.HouseError.TheVariants as error
use Rattle.carol_worker.specs.Desks.{GossipsIn, Moves, Passes, StepsIn}
use Rattle.carol_worker.specs.Running.{Continues}
use Rattle.carol_worker.proofs.Going.{continues_not, continues_one, continues_step}

-- ---- the house goes on

continues_same : (old new : House) → new ≡ old → Continues old new
continues_same old new same = subst (λ (h : House). Continues old h) (sym same) (continues_not old)

continues_rests : (old new : House) → Rests old new → Continues old new
continues_rests old new rests =
    record { over = rests.over; later = []; history = rests.history; unlinked = tt }

continues_moves : (old new : House) (session : ℕ) (given : Result Moved HouseError) → Moves old session given new → Continues old new
continues_moves old new session (Ok (moved.Entered kind)) moves = continues_step old new session kind moves
continues_moves old new session (Ok moved.Finished) moves = continues_same old new moves.1
continues_moves old new session (Err error.Full) moves = continues_same old new moves.2
continues_moves old new session (Err error.NoMemory) moves = continues_rests old new moves.3

pub continues_steps : (old new : House) (session : ℕ) (given : Result Moved HouseError) → StepsIn old session given new → Continues old new
continues_steps old new session given (inl steps) = continues_moves old new session given steps.1
continues_steps old new session given (inr none) = continues_same old new none.2

continues_passes : (old new : House) (source target : ℕ) (given : Result Gossip HouseError) → Passes old source target given new → Continues old new
continues_passes old new source target (Ok (gossip.Delivered entry)) passes =
    continues_one old new (Deliver source target entry) refl passes.2
continues_passes old new source target (Ok gossip.NothingNew) passes = continues_same old new passes.2
continues_passes old new source target (Ok gossip.CutOff) passes = continues_same old new passes.1
continues_passes old new source target (Err error.Full) passes = continues_same old new passes.2
continues_passes old new source target (Err error.NoMemory) passes = continues_rests old new passes.3

pub continues_gossips : (old new : House) (source target : ℕ) (given : Result Gossip HouseError) → GossipsIn old source target given new → Continues old new
continues_gossips old new source target given (inl passes) =
    continues_passes old new source target given passes.1
continues_gossips old new source target given (inr none) = continues_same old new none.2

-- What keeps a house from a move.
use Rattle.std.proofs.Common.{◌≡◌, ℕ, true, false, List, sym, subst, ◌∙◌}
use Rattle.carol_program.specs.Rules.{rules_in}
use Rattle.carol_program.specs.declared.scenes.Scene.{Scene}
use Rattle.carol_reading.specs.Kept.{Kept}
use Rattle.carol_event.specs.declared.event.Event.{Event}
use Rattle.carol_event.specs.declared.event.Event.TheVariants as event
use Rattle.carol_history.specs.Legal.{Legal}
use Rattle.carol_house.specs.declared.error.HouseError.{HouseError}
use Rattle.carol_house.specs.declared.error.HouseError.TheVariants as error
use Rattle.carol_house.specs.House.{House, Rests, rules_of}
use Rattle.carol_house.specs.declared.moved.Gossip.TheVariants as gossip
use Rattle.carol_house.specs.Moves.{CanGossip, FailsToGossip, FailsToLink, Offers}

-- where an entry is to be delivered, one can be
pub can_gossip : (h : House) (source target entry : ℕ) → Offers h source target (gossip.Delivered entry) → CanGossip h source target
can_gossip h source target entry (brings, inside) = (brings.may.linked, λ nothing. clash (sym (nothing brings.entry (rw same inside) brings.may.held) ∙ brings.may.lacking))
  where
    same : brings.entry ≡ entry
    same = let is : event.Deliver source target entry ≡ event.Deliver source target brings.entry = brings.is in cc

    clash : true ≡ false → ⊥
    clash e = cc

pub gossip_fails : (old : House) (source target : ℕ) (e : HouseError) (new : House) → CanGossip old source target → FailsToLink old e new → FailsToGossip old source target e new
gossip_fails old source target error.Full new can fails = (can, fails.0, fails.1)
gossip_fails old source target error.NoMemory new can fails = (can, fails.0, fails.1, fails.2)

-- what may come next still may where there is more room
pub legal_after : (old new : House) (given : Event) → Rests old new → Legal (rules_of old) old.scene given old.history → Legal (rules_of new) new.scene given new.history
legal_after old new given rests legal =
    subst (λ (past : List Event). Legal (rules_of new) new.scene given past) (sym rests.history)
    (subst (λ (scene : Scene). Legal (rules_of new) scene given old.history) (sym rests.over.scene)
    (subst (λ (kept : Kept). Legal (rules_in kept.program) old.scene given old.history) (sym rests.over.kept) legal))

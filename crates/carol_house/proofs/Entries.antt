-- What a house keeps of its entries and links, after each kind of event.
use Rattle.std.proofs.Common.{◌≡◌, ℕ, ◌<◌, ◌≤◌, Bool, true, false, cond, eqb, ◌&&◌, ◌||◌, List, [], ◌∷◌, length, refl, sym, subst, ◌∙◌, ap, inl, inr, arith, length-append}
use Rattle.std.specs.Prelude.{Some, slice_get}
use Rattle.std.proofs.lemmas.Bool.{or_right}
use Rattle.carol_store.specs.declared.effect.Atom.{Atom}
use Rattle.carol_program.specs.Limits.{most_replicas}
use Rattle.carol_program.specs.Rules.{Rules}
use Rattle.carol_program.specs.declared.scenes.Scene.{Scene}
use Rattle.carol_program.specs.declared.scenes.SessionPlan.{SessionPlan}
use Rattle.carol_event.specs.declared.event.Event.{Event}
use Rattle.carol_event.specs.declared.event.Event.TheVariants.{Issue, Deliver}
use Rattle.carol_history.specs.Journals.{effect_at, is_at, is_held, journal}
use Rattle.carol_history.specs.Legal.{Admits, IsSettled}
use Rattle.carol_history.specs.Links.{is_pair}
use Rattle.carol_holding.specs.Held.{Adds, Holding}
use Rattle.carol_replica.specs.Stored.{Changes, Replicas}
use Rattle.carol_house.specs.Kept.{AreJoined, AreLocals, AreSettled, IsHolding, are_joined, settled_below}
use Rattle.carol_house.specs.Moves.{link_event}
use Rattle.carol_house.proofs.Lists.{get_or-push_left}

-- ---- who holds which entries

pub holding_issue : (scene : Scene) (past : List Event) (session entry : ℕ) (effect : List Atom) (plan : SessionPlan) (old new : Holding) → slice_get scene.sessions session ≡ Some plan → IsHolding scene past old → Adds old plan.replica entry new → IsHolding scene (Issue session entry effect ∷ past) new
holding_issue scene past session entry effect plan old new planned is adds r i =
    rw planned (adds.each r i ∙ ap (λ (b : Bool). (eqb entry i && eqb plan.replica r) || b) (is r i))

pub holding_deliver : (scene : Scene) (past : List Event) (source target entry : ℕ) (old new : Holding) → IsHolding scene past old → Adds old target entry new → IsHolding scene (Deliver source target entry ∷ past) new
holding_deliver scene past source target entry old new is adds r i =
    adds.each r i ∙ ap (λ (b : Bool). (eqb entry i && eqb target r) || b) (is r i)

-- ---- the stores

pub locals_issue : (p : Rules) (scene : Scene) (past : List Event) (session entry : ℕ) (effect : List Atom) (plan : SessionPlan) (old new : Replicas) → slice_get scene.sessions session ≡ Some plan → AreLocals p scene past old → Changes p.shape old plan.replica effect new → AreLocals p scene (Issue session entry effect ∷ past) new
locals_issue p scene past session entry effect plan old new planned are changes r h =
    rw planned (changes.each r ∙ rw (are r h) refl)

pub locals_deliver : (p : Rules) (scene : Scene) (past : List Event) (source target entry : ℕ) (effect : List Atom) (old new : Replicas) → effect ≡ effect_at entry past → AreLocals p scene past old → Changes p.shape old target effect new → AreLocals p scene (Deliver source target entry ∷ past) new
locals_deliver p scene past source target entry effect old new is are changes r h =
    changes.each r ∙ rw (are r h, is) refl

-- ---- up to where entries are settled

settled_issue_at : (p : Rules) (scene : Scene) (past : List Event) (session number : ℕ) (effect : List Atom) (replica guard entry : ℕ) → entry < length (journal past) → IsSettled p scene replica guard entry past → IsSettled p scene replica guard entry (Issue session number effect ∷ past)
settled_issue_at p scene past session number effect replica guard entry inside (inl held) =
    inl (or_right (eqb number entry && is_at scene.sessions session replica) (is_held scene.sessions replica entry past) held)
settled_issue_at p scene past session number effect replica guard entry inside (inr within) =
    inr (subst (Admits p guard) (sym (get_or-push_left (journal past) effect entry [] inside)) within)

settled_deliver_at : (p : Rules) (scene : Scene) (past : List Event) (source target number : ℕ) (replica guard entry : ℕ) → IsSettled p scene replica guard entry past → IsSettled p scene replica guard entry (Deliver source target number ∷ past)
settled_deliver_at p scene past source target number replica guard entry (inl held) =
    inl (or_right (eqb number entry && eqb target replica) (is_held scene.sessions replica entry past) held)
settled_deliver_at p scene past source target number replica guard entry (inr within) = inr within

pub settled_issue : (p : Rules) (scene : Scene) (past : List Event) (session number : ℕ) (effect : List Atom) (settled : List (List ℕ)) → AreSettled p scene past settled → AreSettled p scene (Issue session number effect ∷ past) settled
settled_issue p scene past session number effect settled are r g h k =
    let before = are r g h k
    in let inside : settled_below settled r g ≤ length (journal past) = before.0
    in (
      omega (arith, inside, length-append (journal past) (effect ∷ [])),
      λ entry below. settled_issue_at p scene past session number effect r g entry (omega (arith, inside)) (before.1 entry below),
    )

pub settled_deliver : (p : Rules) (scene : Scene) (past : List Event) (source target number : ℕ) (settled : List (List ℕ)) → AreSettled p scene past settled → AreSettled p scene (Deliver source target number ∷ past) settled
settled_deliver p scene past source target number settled are r g h k =
    let before = are r g h k
    in (before.0, λ entry below. settled_deliver_at p scene past source target number r g entry (before.1 entry below))

-- ---- the links

pub joined_link : (past : List Event) (a b : ℕ) (up : Bool) (old new : List (List Bool)) → AreJoined past old → ((x y : ℕ) → x < most_replicas → y < most_replicas → are_joined new x y ≡ cond (is_pair a b x y) up (are_joined old x y)) → AreJoined (link_event a b up ∷ past) new
joined_link past a b true old new are is x y h k = is x y h k ∙ ap (λ (j : Bool). cond (is_pair a b x y) true j) (are x y h k)
joined_link past a b false old new are is x y h k = is x y h k ∙ ap (λ (j : Bool). cond (is_pair a b x y) false j) (are x y h k)

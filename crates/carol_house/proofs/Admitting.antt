-- Which events a session may come next with.
use Rattle.std.proofs.Common.{◌≡◌, ℕ, List}
use Rattle.carol_program.specs.Rules.{Rules}
use Rattle.carol_program.specs.declared.scenes.Scene.{Scene}
use Rattle.carol_event.specs.declared.event.Event.{Event}
use Rattle.carol_event.specs.declared.event.Event.TheVariants.{Grant, Query, Issue, Release, Return, Refuse, Deliver, Cut, Join}
use Rattle.carol_history.specs.Acts.{doing}
use Rattle.carol_history.specs.Forced.{Forced, IsBy}
use Rattle.carol_history.specs.Laws.{ForcedIsSingle}
use Rattle.carol_history.specs.Legal.{Legal}

-- an event of the session that may come next is the one that it is to go on with
pub own_forced : (p : Rules) (scene : Scene) (session : ℕ) (given : Event) (past : List Event) → IsBy session (doing given) → Legal p scene given past → Forced p scene session given past
own_forced p scene session (Grant s g) past by legal = (by, legal)
own_forced p scene session (Query s g store) past by legal = (by, legal)
own_forced p scene session (Issue s entry effect) past by legal = (by, legal)
own_forced p scene session (Release s) past by legal = (by, legal)
own_forced p scene session (Return s value) past by legal = (by, legal)
own_forced p scene session (Refuse s cause) past by legal = (by, legal)
own_forced p scene session (Deliver source target entry) past by legal = absurd by
own_forced p scene session (Cut a b) past by legal = absurd by
own_forced p scene session (Join a b) past by legal = absurd by

-- so no other one may
pub other_illegal : (p : Rules) (scene : Scene) (session : ℕ) (one given : Event) (past : List Event) → ForcedIsSingle p scene past → Forced p scene session one past → IsBy session (doing given) → (one ≡ given → ⊥) → Legal p scene given past → ⊥
other_illegal p scene session one given past single forced by apart legal =
    apart (single session one given forced (own_forced p scene session given past by legal))

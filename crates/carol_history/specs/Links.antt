-- Which replicas are linked.
use Rattle.std.specs.Prelude.{ℕ, Bool, true, false, not, ◌==◌, ◌&&◌, ◌||◌, if◌then◌else◌, List, [], ◌∷◌}
use Rattle.carol_event.specs.declared.event.Event.{Event}
use Rattle.carol_event.specs.declared.event.Event.TheVariants.{Cut, Join}

-- these are the two replicas, in either order
abbrev pub is_pair : ℕ → ℕ → ℕ → ℕ → Bool
is_pair a b one other = ((a == one) && (b == other)) || ((a == other) && (b == one))

-- the last cut or join of the two is a join, or there is none
abbrev pub is_joined : ℕ → ℕ → List Event → Bool
is_joined one other [] = true
is_joined one other (Cut a b ∷ past) =
    if is_pair a b one other then false else is_joined one other past
is_joined one other (Join a b ∷ past) =
    if is_pair a b one other then true else is_joined one other past
is_joined one other (event ∷ past) = is_joined one other past

-- two different replicas that are joined
abbrev pub is_linked : ℕ → ℕ → List Event → Bool
is_linked one other past = not (one == other) && is_joined one other past

use Rattle.carol_search.proofs.state.State.+is_dead_within.Given as goal

-- proposed from what the function passes where it calls itself
abbrev pub decreases-is_dead_within : goal.decreases-is_dead_within
decreases-is_dead_within l = l.deep

use Rattle.carol_search.proofs.state.State.+is_true_within.Given as goal

-- proposed from what the function passes where it calls itself
abbrev pub decreases-is_true_within : goal.decreases-is_true_within
decreases-is_true_within l = l.deep

use Rattle.carol_search.proofs.state.State.+false_within.Given as goal

-- proposed from what the function passes where it calls itself
abbrev pub decreases-false_within : goal.decreases-false_within
decreases-false_within l = l.deep

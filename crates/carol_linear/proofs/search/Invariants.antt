use Rattle.carol_elimination.specs.Entries.{terms_of}
use Rattle.carol_linear.specs.State.{IsAt, rank_of}
use Rattle.carol_linear.proofs.search.Given as goal

abbrev pub invariant-loop-state : goal.invariant-loop-state
invariant-loop-state l = IsAt (record { rows = terms_of l.rows; names = l.names; claims = l.claims; leaves = l.leaves }) l.state

abbrev pub decreases-loop-state : goal.decreases-loop-state
decreases-loop-state l = rank_of l.state

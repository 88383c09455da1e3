use Rattle.carol_difference.specs.Graph.{IsGraph}
use Rattle.carol_difference.proofs.graph.graph_of.Given as goal

abbrev pub invariant-loop-number : goal.invariant-loop-number
invariant-loop-number l = IsGraph l.rows l.number l.graph.numbers l.graph.variables.items l.graph.edges.items

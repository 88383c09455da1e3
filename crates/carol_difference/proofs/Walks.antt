-- Walks that are traced back, and their weights.
use Rattle.std.proofs.Common.{◌≡◌, ℕ, ◌<◌, List, [], ◌∷◌, ◌++◌, length, reverse, refl, sym, subst, ap, ◌∙◌, arith}
use Rattle.std.specs.Prelude.{ℤ, ◌+ℤ◌, ◌≤ℤ◌}
use Rattle.std.specs.List.{All}
use Rattle.std.proofs.lemmas.Int.{ints}
use Rattle.std.proofs.lemmas.List.{reverse-append}
use Rattle.carol_difference.specs.declared.paths.Edge.{Edge}
use Rattle.carol_difference.specs.Edges.{edge_at, IsWalk, walk_weight, Meets, IsNegativeCycle, CannotBeMet}

-- the numbered edges, traced back from a node: each ends where the one before it begins
abbrev pub IsTrail : List Edge → ℕ → List ℕ → ℕ → Type 0
IsTrail edges end [] start = end ≡ start
IsTrail edges end (n ∷ ns) start =
    (n < length edges) × ((edge_at edges n).to ≡ end) × IsTrail edges (edge_at edges n).from ns start

-- one edge further back
pub IsTrail-push : (edges : List Edge) (end : ℕ) (ns : List ℕ) (start n : ℕ) → IsTrail edges end ns start → n < length edges → (edge_at edges n).to ≡ start → IsTrail edges end (ns ++ n ∷ []) (edge_at edges n).from
IsTrail-push edges end [] start n trail known to = (known, to ∙ sym trail, refl)
IsTrail-push edges end (m ∷ ms) start n trail known to = (trail.0, trail.1, IsTrail-push edges (edge_at edges m).from ms start n trail.2 known to)

-- one edge further on
IsWalk-push : (edges : List Edge) (start : ℕ) (ns : List ℕ) (end n : ℕ) → IsWalk edges start ns end → n < length edges → (edge_at edges n).from ≡ end → IsWalk edges start (ns ++ n ∷ []) (edge_at edges n).to
IsWalk-push edges start [] end n walk known from = (known, from ∙ sym walk, refl)
IsWalk-push edges start (m ∷ ms) end n walk known from = (walk.0, walk.1, IsWalk-push edges (edge_at edges m).to ms end n walk.2 known from)

reverse-cons : (n : ℕ) (ns : List ℕ) → reverse (n ∷ ns) ≡ reverse ns ++ n ∷ []
reverse-cons n ns = reverse-append (n ∷ []) ns

-- a trail turned round is a walk
pub walk_from_trail : (edges : List Edge) (end : ℕ) (ns : List ℕ) (start : ℕ) → IsTrail edges end ns start → IsWalk edges start (reverse ns) end
walk_from_trail edges end [] start trail = sym trail
walk_from_trail edges end (n ∷ ns) start trail =
    rw (reverse-cons n ns) (subst (IsWalk edges start (reverse ns ++ n ∷ [])) trail.1 (IsWalk-push edges start (reverse ns) (edge_at edges n).from n (walk_from_trail edges (edge_at edges n).from ns start trail.2) trail.0 refl))

pub walk_weight-push : (edges : List Edge) (ns : List ℕ) (n : ℕ) → walk_weight edges (ns ++ n ∷ []) ≡ walk_weight edges ns +ℤ (edge_at edges n).weight
walk_weight-push edges [] n = omega (arith, ints)
walk_weight-push edges (m ∷ ms) n = omega (arith, ints, walk_weight-push edges ms n)

pub walk_weight-reverse : (edges : List Edge) (ns : List ℕ) → walk_weight edges (reverse ns) ≡ walk_weight edges ns
walk_weight-reverse edges [] = refl
walk_weight-reverse edges (n ∷ ns) = rw (reverse-cons n ns) (omega (arith, ints, walk_weight-push edges (reverse ns) n, walk_weight-reverse edges ns))

-- where every edge is met, the value at a walk's end is at most that at its start and the walk's weight
walk_meets : (edges : List Edge) (value : ℕ → ℤ) → All (Meets value) edges → (start : ℕ) (ns : List ℕ) (end : ℕ) → IsWalk edges start ns end → value end ≤ℤ (value start +ℤ walk_weight edges ns)
walk_meets edges value meets start [] end walk =
    let same : value start ≡ value end = ap value walk in
    omega (arith, ints, same)
walk_meets edges value meets start (n ∷ ns) end walk =
    let met : value (edge_at edges n).to ≤ℤ (value (edge_at edges n).from +ℤ (edge_at edges n).weight) = meets n _ walk.0 in
    let from : value (edge_at edges n).from ≡ value start = ap value walk.1 in
    omega (arith, ints, met, from, walk_meets edges value meets (edge_at edges n).to ns end walk.2)

-- no numbers meet every edge of a graph with a negative cycle
pub cycle_refutes : (nodes : ℕ) (edges : List Edge) (numbers : List ℕ) → IsNegativeCycle nodes edges numbers → CannotBeMet edges
cycle_refutes nodes edges numbers cycle value meets =
    omega (arith, ints, cycle.negative, walk_meets edges value meets cycle.node numbers cycle.node cycle.closed)

-- Light formulas and their denials are narrow, and without `Not` they have no more nodes.
use Rattle.std.proofs.Common.{◌≤◌, Bool, true, false, arith}
use Rattle.std.specs.Prelude.{pos, not}
use Rattle.carol_formula.specs.Bounds.{narrow_limit}
use Rattle.carol_formula.specs.Linear.{Linear, IsWithin, constant_of, difference_of}
use Rattle.carol_formula.specs.Claim.{Claim, True, False, Le, Eq, Ne, And, Or, Not, ClaimWithin, without_not}
use Rattle.carol_formula.specs.Size.{nodes_of, IsLightTerm, IsLight}
use Rattle.carol_formula.proofs.Weights.{IsWithin-weight, weight-difference_of}

narrow_term : (t : Linear) → IsLightTerm t → IsWithin narrow_limit t
narrow_term t light = IsWithin-weight narrow_limit t (omega (arith, light))

narrow_difference : (t : Linear) → IsLightTerm t → IsWithin narrow_limit (difference_of (constant_of (pos 1)) t)
narrow_difference t light =
    IsWithin-weight narrow_limit (difference_of (constant_of (pos 1)) t) (omega (arith, light, weight-difference_of (constant_of (pos 1)) t))

pub narrow_light : (c : Claim) → IsLight c → ClaimWithin narrow_limit c
narrow_light True light = tt
narrow_light False light = tt
narrow_light (Le t) light = narrow_term t light
narrow_light (Eq t) light = narrow_term t light
narrow_light (Ne t) light = narrow_term t light
narrow_light (And a b) light = (narrow_light a light.0, narrow_light b light.1)
narrow_light (Or a b) light = (narrow_light a light.0, narrow_light b light.1)
narrow_light (Not a) light = narrow_light a light

pub narrow_without_not : (flag : Bool) (c : Claim) → IsLight c → ClaimWithin narrow_limit (without_not flag c)
narrow_without_not true True light = tt
narrow_without_not false True light = tt
narrow_without_not true False light = tt
narrow_without_not false False light = tt
narrow_without_not true (Le t) light = narrow_term t light
narrow_without_not false (Le t) light = narrow_difference t light
narrow_without_not true (Eq t) light = narrow_term t light
narrow_without_not false (Eq t) light = narrow_term t light
narrow_without_not true (Ne t) light = narrow_term t light
narrow_without_not false (Ne t) light = narrow_term t light
narrow_without_not true (And a b) light = (narrow_without_not true a light.0, narrow_without_not true b light.1)
narrow_without_not false (And a b) light = (narrow_without_not false a light.0, narrow_without_not false b light.1)
narrow_without_not true (Or a b) light = (narrow_without_not true a light.0, narrow_without_not true b light.1)
narrow_without_not false (Or a b) light = (narrow_without_not false a light.0, narrow_without_not false b light.1)
narrow_without_not flag (Not a) light = narrow_without_not (not flag) a light

pub nodes-without_not : (flag : Bool) (c : Claim) → nodes_of (without_not flag c) ≤ nodes_of c
nodes-without_not true True = omega arith
nodes-without_not false True = omega arith
nodes-without_not true False = omega arith
nodes-without_not false False = omega arith
nodes-without_not true (Le t) = omega arith
nodes-without_not false (Le t) = omega arith
nodes-without_not true (Eq t) = omega arith
nodes-without_not false (Eq t) = omega arith
nodes-without_not true (Ne t) = omega arith
nodes-without_not false (Ne t) = omega arith
nodes-without_not true (And a b) = omega (arith, nodes-without_not true a, nodes-without_not true b)
nodes-without_not false (And a b) = omega (arith, nodes-without_not false a, nodes-without_not false b)
nodes-without_not true (Or a b) = omega (arith, nodes-without_not true a, nodes-without_not true b)
nodes-without_not false (Or a b) = omega (arith, nodes-without_not false a, nodes-without_not false b)
nodes-without_not flag (Not a) = omega (arith, nodes-without_not (not flag) a)

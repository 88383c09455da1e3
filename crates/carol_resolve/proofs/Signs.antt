-- A term with each sign turned.
use Rattle.std.proofs.Common.{ℕ, ◌+◌, ◌-◌, ◌^◌, List, [], ◌∷◌, arith}
use Rattle.std.specs.Prelude.{ℤ, negsuc}
use Rattle.carol_formula.specs.Bounds.{term_limit}
use Rattle.carol_formula.specs.Linear.{Linear, AllBelow, IsNormal, IsWithin, IsTerm, times, scaled}
use Rattle.carol_formula.proofs.Products.{AscendsFrom-normal_of, AllFrom-zero, NoneZero-normal_of}
use Rattle.carol_names.proofs.Bounds.{AtMost, normal-bounded, minus-bounded, bounded-within}

below-most : (b : ℕ) (ps : List (ℕ × ℤ)) → AllBelow (b + 1) ps → AtMost b ps
below-most b [] h = tt
below-most b (p ∷ ps) h = (omega (arith, h.0), below-most b ps h.1)

turned-normal : (t : Linear) → IsNormal (scaled (negsuc 0) t)
turned-normal t = record {
  ascends = AscendsFrom-normal_of 0 (times (negsuc 0) t.pairs) (AllFrom-zero (times (negsuc 0) t.pairs));
  none_zero = NoneZero-normal_of (times (negsuc 0) t.pairs);
}

turned-within : (b : ℕ) (t : Linear) → IsNormal t → IsWithin (b + 1) t → IsWithin (b + 1) (scaled (negsuc 0) t)
turned-within b t normal within =
    bounded-within b (b + 1) (scaled (negsuc 0) t) (turned-normal t) (omega arith)
    (minus-bounded b t (normal-bounded b t normal (below-most b t.pairs within.coefficients) (omega (arith, within.constant))))

-- it is within the limit of a term
pub negated-within : (t : Linear) → IsTerm t → IsWithin term_limit (scaled (negsuc 0) t)
negated-within t h = turned-within (2 ^ 100 - 1) t h.normal h.within

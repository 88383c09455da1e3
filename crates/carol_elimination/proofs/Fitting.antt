-- What is within a limit all the way has a value below it.
use Rattle.std.proofs.Common.{ℕ, List, [], ◌∷◌, sym, subst}
use Rattle.std.specs.Prelude.{ℤ, pos, ◌+ℤ◌, ◌*ℤ◌}
use Rattle.std.proofs.Math.IntN.{+ℤ_idl, +ℤ_idr, +ℤ_assoc}
use Rattle.carol_formula.specs.Bounds.{IsBelow}
use Rattle.carol_formula.specs.Linear.{Linear}
use Rattle.carol_formula.specs.Value.{sum_at, value_at, SumFits, FitsWithin}

last_sum : (limit : ℕ) (before : ℤ) (ps : List (ℕ × ℤ)) (rest : ℤ) (f : ℕ → ℤ) → SumFits limit before ps rest f → IsBelow limit ((before +ℤ sum_at ps f) +ℤ rest)
last_sum limit before [] rest f h = subst (λ (z : ℤ). IsBelow limit (z +ℤ rest)) (sym (+ℤ_idr before)) h
last_sum limit before (p ∷ ps) rest f h = subst (λ (z : ℤ). IsBelow limit (z +ℤ rest)) (+ℤ_assoc before (p.1 *ℤ f p.0) (sum_at ps f)) (last_sum limit (before +ℤ (p.1 *ℤ f p.0)) ps rest f h.2)

pub value_below : (limit : ℕ) (t : Linear) (f : ℕ → ℤ) → FitsWithin limit t f → IsBelow limit (value_at t f)
value_below limit t f h = subst (λ (z : ℤ). IsBelow limit (z +ℤ t.rest)) (+ℤ_idl (sum_at t.pairs f)) (last_sum limit (pos 0) t.pairs t.rest f h)

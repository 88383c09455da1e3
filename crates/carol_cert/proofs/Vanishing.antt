-- The variables of a term whose sign is turned.
use Rattle.std.proofs.Common.{◌≡◌, ℕ, Bool, List, [], ◌∷◌, sym, subst}
use Rattle.std.specs.Prelude.{Some, IsTrue, ℤ, negsuc, ◌↔◌}
use Rattle.carol_formula.specs.Linear.{Linear, times}
use Rattle.carol_formula.specs.Claim.{Claim}
use Rattle.carol_cert.specs.Cases.{above_zero}
use Rattle.carol_cert.specs.Steps.{term_of}
use Rattle.carol_cert.specs.Columns.{EachVanishes}
use Rattle.carol_cert.specs.declared.step.RowStep.{RowStep}

-- the sign of the coefficients is nothing to it
EachVanishes-times : (claims : List Claim) (steps : List RowStep) (k : ℤ) (ps : List (ℕ × ℤ)) → EachVanishes claims steps ps ↔ EachVanishes claims steps (times k ps)
EachVanishes-times claims steps k [] = ((λ h. h), (λ h. h))
EachVanishes-times claims steps k (p ∷ ps) =
    let rest : EachVanishes claims steps ps ↔ EachVanishes claims steps (times k ps) = EachVanishes-times claims steps k ps in
    ((λ h. (h.0, rest.0 h.1)), (λ h. (h.0, rest.1 h.1)))

pub above_zero_vanishes : (claims : List Claim) (steps : List RowStep) (claim : Claim) (t : Linear) (ps : List (ℕ × ℤ)) (r : Bool) → claim ≡ above_zero t → ps ≡ t.pairs → (IsTrue r ↔ EachVanishes claims steps ps) → IsTrue r ↔ EachVanishes claims steps (term_of (Some claim)).pairs
above_zero_vanishes claims steps claim t ps r is same h =
    let turned : EachVanishes claims steps t.pairs ↔ EachVanishes claims steps (times (negsuc 0) t.pairs) = EachVanishes-times claims steps (negsuc 0) t.pairs in
    let here : IsTrue r ↔ EachVanishes claims steps t.pairs = subst (λ qs. IsTrue r ↔ EachVanishes claims steps qs) same h in
    subst (λ c. IsTrue r ↔ EachVanishes claims steps (term_of (Some c)).pairs) (sym is) ((λ yes'. turned.0 (here.0 yes')), (λ all. here.1 (turned.1 all)))

-- What is refused isn't accepted.
use Rattle.std.proofs.Common.{ℕ, List, [], ◌∷◌, ◌++◌, subst}
use Rattle.std.specs.Prelude.{ℤ}
use Rattle.std.specs.List.{AllByRecursion}
use Rattle.carol_program.specs.Rules.{Rules}
use Rattle.carol_reading.specs.Good.{IsAccepted, IsReflexive}
use Rattle.carol_accord.specs.Broken.{here_of}
use Rattle.carol_accord.specs.Inferred.{IsNotReflexive}

-- one between others
all_in : {X : Type 0} (P : X → Type 0) (xs : List X) (x : X) (ys : List X) → AllByRecursion P (xs ++ x ∷ ys) → P x
all_in P [] x ys h = h.0
all_in P (y ∷ xs) x ys h = all_in P xs x ys h.1

-- a guard that is false of two equal stores
pub not_reflexive : (p : Rules) (number : ℕ) (f : ℕ → ℤ) → IsNotReflexive p number f → IsAccepted p → ⊥
not_reflexive p number f breaks accepted =
    let all = subst (AllByRecursion (IsReflexive p)) breaks.first.order accepted.reflexive in
    let reflexive = all_in (IsReflexive p) breaks.first.earlier breaks.guard breaks.first.later all in
    let holds = reflexive.each (here_of p.shape f) breaks.breaks.store in
    let fails = breaks.breaks.fails in
    cc

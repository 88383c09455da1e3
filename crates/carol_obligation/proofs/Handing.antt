-- What stays so while the operations of a program are walked.
use Rattle.std.proofs.Common.{◌≡◌, ℕ, ◌+◌, ◌≤◌, List, ◌∷◌, length, subst, arith}
use Rattle.std.specs.Prelude.{map}
use Rattle.std.specs.List.{AllByRecursion}
use Rattle.carol_formula.specs.Claim.{Claim}
use Rattle.carol_program.specs.declared.places.Place.{Place}
use Rattle.carol_program.specs.declared.program.Op.{Op}
use Rattle.carol_program.specs.Limits.{most_ops}
use Rattle.carol_program.specs.Rules.{Rules, op_rules}
use Rattle.carol_program.specs.WellFormed.{IsOpOver}
use Rattle.carol_obligation.specs.Places.{obligations_at, obligations_from, obligations_of}
use Rattle.carol_obligation.specs.Passing.{Passes}
use Rattle.carol_obligation.proofs.Gathering.{Gathered, gathered_more}

-- the operations from the one with this number on are left
pub record Handing {S : Type 0} (holds : S → List (Place × Claim) → Type 0) (old now : S) (p : Rules) (number : ℕ) (left : List Op) : Type 0 where
  pub gathered : Gathered holds old now (obligations_from p number (map op_rules left)) (obligations_of p)
  pub over : AllByRecursion (IsOpOver p.shape (length p.guards)) (map op_rules left)
  pub few : number + length left ≤ most_ops

pub handing_more : {S : Type 0} (holds : S → List (Place × Claim) → Type 0) (old now new : S) (p : Rules) (number : ℕ) (ops : List Op) (op : Op) (left : List Op) → Handing holds old now p number ops → ops ≡ op ∷ left → Passes holds now new (obligations_at p number (op_rules op)) → Handing holds old new p (number + 1) left
handing_more holds old now new p number ops op left before is passes =
    let h = subst (Handing holds old now p number) is before in
    record {
      gathered = gathered_more holds old now new (obligations_at p number (op_rules op)) (obligations_from p (number + 1) (map op_rules left)) (obligations_of p) h.gathered passes;
      over = h.over.1;
      few = omega (arith, h.few);
    }

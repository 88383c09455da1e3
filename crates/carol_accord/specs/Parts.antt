-- What the parts of the work answer: one formula, one step and one guard.
use Rattle.std.specs.Prelude.{◌≡◌, ◌≤◌, ℕ, true, false, List, [], ◌∷◌, ◌++◌, length, ℤ}
use Rattle.carol_store.specs.declared.shape.CellKind.{CellKind}
use Rattle.carol_store.specs.declared.direction.Direction.{Direction}
use Rattle.carol_formula.specs.Claim.{Claim, truth, without_not}
use Rattle.carol_formula.specs.Numbers.{number_at}
use Rattle.carol_decide.specs.declared.answer.Answer.{Answer}
use Rattle.carol_decide.specs.declared.answer.Answer.TheVariants as answer
use Rattle.carol_decide.specs.declared.answer.Why.{Why}
use Rattle.carol_decide.specs.Answer.{IsStuck}
use Rattle.carol_program.specs.declared.accords.Entry.{Entry}
use Rattle.carol_program.specs.declared.accords.Entry.TheVariants.{Yes, No}
use Rattle.carol_program.specs.declared.places.Place.{Place}
use Rattle.carol_program.specs.declared.places.Place.TheVariants.{Reflexive, Accord}
use Rattle.carol_program.specs.Limits.{most_cells}
use Rattle.carol_program.specs.Preserving.{Preserves}
use Rattle.carol_program.specs.Rules.{Rules}
use Rattle.carol_program.specs.Variables.{guard_variables}
use Rattle.carol_program.specs.WellFormed.{IsFormulaOver}
use Rattle.carol_reading.specs.Good.{IsReflexive}
use Rattle.carol_accord.specs.declared.error.AccordError.{AccordError}
use Rattle.carol_accord.specs.declared.error.AccordError.TheVariants.{NotReflexive, Undecided, NoMemory}
use Rattle.carol_accord.specs.Broken.{BreaksEqual, BreaksStep}
use Rattle.carol_accord.specs.Inferred.{IsEqualReason, IsStepReason, ComesToStep, step_of, steps_of}

-- a guard of a program with cells of these kinds
pub record IsGuard (kinds : List CellKind) (guard : Claim) : Type 0 where
  pub few : length kinds ≤ most_cells
  pub over : IsFormulaOver (guard_variables kinds) guard

-- ---- one formula

-- how many nodes a formula that is decided has at the most
abbrev pub most_formula : ℕ
most_formula = 1000

abbrev pub Decides : Claim → Answer → Type 0
Decides claim (answer.Unsat tree) = (f : ℕ → ℤ) → truth claim f ≡ false
Decides claim (answer.Sat at) = truth claim (number_at at) ≡ true
Decides claim (answer.Undecided why) = IsStuck (without_not true claim) why

-- ---- one guard at equal stores

abbrev pub OpensEqual : Rules → ℕ → Claim → Place → Why → Type 0
OpensEqual p number guard (Reflexive n) why = (n ≡ number) × IsEqualReason p.shape guard why
OpensEqual p number guard place why = ⊥

-- what stops the work there; the guard has this number
abbrev pub StopsEqual : Rules → ℕ → Claim → AccordError → Type 0
StopsEqual p number guard (NotReflexive n at) = (n ≡ number) × BreaksEqual p.shape guard (number_at at)
StopsEqual p number guard (Undecided place why) = OpensEqual p number guard place why
StopsEqual p number guard NoMemory = Unit {0}

-- ---- one step

abbrev pub IsEntry : List CellKind → Claim → Direction → Entry → Type 0
IsEntry kinds guard direction Yes = Preserves kinds guard direction
IsEntry kinds guard direction (No at) = BreaksStep kinds guard direction (number_at at)

abbrev pub OpensStep : Rules → ℕ → Claim → Direction → Place → Why → Type 0
OpensStep p number guard direction (Accord n cell up) why =
    (n ≡ number) × (step_of cell up ≡ direction) × IsStepReason p.shape guard direction why
OpensStep p number guard direction place why = ⊥

-- what stops the work there; the guard has this number
abbrev pub StopsStep : Rules → ℕ → Claim → Direction → AccordError → Type 0
StopsStep p number guard direction (NotReflexive n at) = ⊥
StopsStep p number guard direction (Undecided place why) = OpensStep p number guard direction place why
StopsStep p number guard direction NoMemory = Unit {0}

-- ---- one guard

abbrev pub AreEntries : List CellKind → Claim → List Direction → List Entry → Type 0
AreEntries kinds guard [] [] = Unit {0}
AreEntries kinds guard (d ∷ ds) (e ∷ es) = IsEntry kinds guard d e × AreEntries kinds guard ds es
AreEntries kinds guard ds es = ⊥

-- the guard is reflexive, and the entries are those of its steps
pub record IsAccord (p : Rules) (guard : Claim) (entries : List Entry) : Type 0 where
  pub reflexive : IsReflexive p guard
  pub entries_are : AreEntries p.shape guard (steps_of p.shape) entries

abbrev pub OpensAt : Rules → ℕ → Claim → Place → Why → Type 0
OpensAt p number guard (Reflexive n) why = (n ≡ number) × IsEqualReason p.shape guard why
OpensAt p number guard (Accord n cell up) why =
    (n ≡ number) × ComesToStep p guard (step_of cell up) × IsStepReason p.shape guard (step_of cell up) why
OpensAt p number guard place why = ⊥

-- what stops the work at a guard, which has this number
abbrev pub Stops : Rules → ℕ → Claim → AccordError → Type 0
Stops p number guard (NotReflexive n at) = (n ≡ number) × BreaksEqual p.shape guard (number_at at)
Stops p number guard (Undecided place why) = OpensAt p number guard place why
Stops p number guard NoMemory = Unit {0}

-- ---- all guards

-- the entries are those of these guards, in order
abbrev pub AreAll : Rules → List Claim → List Entry → Type 0
AreAll p [] entries = entries ≡ []
AreAll p (guard ∷ guards) entries =
    (own : List Entry) × ((rest : List Entry) × ((entries ≡ own ++ rest) × IsAccord p guard own × AreAll p guards rest))

-- Breaches: numbers for the variables that stand for a reading along the way to a place, at which what
-- is asked there isn't so.
use Rattle.std.specs.Prelude.{◌≡◌, ℕ, false, List, [], ◌∷◌, length, ℤ, slice_get, Some}
use Rattle.carol_store.specs.declared.shape.CellKind.{CellKind}
use Rattle.carol_store.specs.declared.shape.CellKind.TheVariants.{Peak}
use Rattle.carol_store.specs.Kinds.{CellValue, IsAmount}
use Rattle.carol_store.specs.Stores.{apply}
use Rattle.carol_formula.specs.Claim.{truth}
use Rattle.carol_formula.specs.Value.{value_at, set_at}
use Rattle.carol_program.specs.declared.steps.Part.{Part}
use Rattle.carol_program.specs.Rules.{Rules, OpRules}
use Rattle.carol_program.specs.Variables.{number_in, number_of_args, cell_variable, result_variable}
use Rattle.carol_reading.specs.Readings.{effect_of}
use Rattle.carol_reading.specs.Good.{IsReading}
use Rattle.carol_obligation.specs.Ways.{Way}
use Rattle.carol_obligation.specs.Sites.{Ending, Amount, After, Gives, Site}
use Rattle.carol_obligation.specs.Decoded.{args_at, marks_at, open_at, ended_at, TestsGo}

-- the store of the open round after an issue of these parts
abbrev pub after_at : List CellKind → Way → List Part → (ℕ → ℤ) → List CellValue
after_at kinds way parts f = apply kinds (effect_of kinds parts f) (open_at kinds way f)

-- each peak that the parts raise has its value after the effect as a variable of its own
abbrev pub AreTied : List CellKind → List CellValue → List Part → (ℕ → ℤ) → Type 0
AreTied kinds after [] f = Unit {0}
AreTied kinds after (part ∷ parts) f =
    (slice_get kinds part.cell ≡ Some Peak → f (cell_variable part.cell) ≡ number_in after part.cell) × AreTied kinds after parts f

-- so has each peak that is raised at an issue's invariant; elsewhere none is raised
abbrev pub HasTies : List CellKind → Way → Ending → (ℕ → ℤ) → Type 0
HasTies kinds way (Amount atom kind part) f = Unit {0}
HasTies kinds way (After parts) f = AreTied kinds (after_at kinds way parts f) parts f
HasTies kinds way (Gives value) f = Unit {0}

-- the reading that stands there has what is asked not so
abbrev pub Breaks : Rules → OpRules → Way → Ending → (ℕ → ℤ) → Type 0
Breaks p op way (Amount atom kind part) f = ¬ IsAmount kind (value_at part.amount f)
Breaks p op way (After parts) f =
    AreTied p.shape (after_at p.shape way parts f) parts f × (truth p.invariant (number_in (after_at p.shape way parts f)) ≡ false)
Breaks p op way (Gives value) f =
    truth op.result (set_at result_variable (value_at value f) (number_of_args (args_at (length op.params) f))) ≡ false

-- the numbers stand for a reading along the way
pub record IsReadingAlong (p : Rules) (op : OpRules) (way : Way) (f : ℕ → ℤ) : Type 0 where
  pub reading : IsReading p op (args_at (length op.params) f) (marks_at p.shape way f) (ended_at p.shape way f (open_at p.shape way f)) (open_at p.shape way f)
  pub tests : TestsGo way f

pub record IsBreach (p : Rules) (op : OpRules) (site : Site) (f : ℕ → ℤ) : Type 0 where
  pub reading : IsReadingAlong p op site.way f
  pub breaks : Breaks p op site.way site.ending f

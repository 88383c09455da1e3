-- Which parts of an issue can be put into an effect.
use Rattle.std.specs.Prelude.{ℕ, List, ℤ, Option, Some, None}
use Rattle.std.specs.List.{AllByRecursion}
use Rattle.carol_store.specs.Kinds.{IsWord}
use Rattle.carol_formula.specs.Linear.{Linear}
use Rattle.carol_formula.specs.Value.{Fits, value_at}
use Rattle.carol_program.specs.declared.steps.Part.{Part}

-- the amount can be added up at these numbers
abbrev pub AmountFits : (ℕ → ℤ) → Part → Type 0
AmountFits f part = Fits part.amount f

abbrev pub AmountsFit : (ℕ → ℤ) → List Part → Type 0
AmountsFit f parts = AllByRecursion (AmountFits f) parts

-- the amount, if there is one, can be added up and kept in a word
abbrev pub CanPut : (ℕ → ℤ) → Option Linear → Type 0
CanPut f None = Unit {0}
CanPut f (Some amount) = Fits amount f × IsWord (value_at amount f)

-- An operation is good exactly where no place of it has a breach.
use Rattle.std.specs.Prelude.{◌↔◌, ℕ, length, ℤ}
use Rattle.std.specs.List.{AllByRecursion}
use Rattle.carol_program.specs.Rules.{Rules, OpRules}
use Rattle.carol_program.specs.WellFormed.{AreRules, IsOpOver}
use Rattle.carol_reading.specs.Good.{IsGood}
use Rattle.carol_obligation.specs.Sites.{Site}
use Rattle.carol_obligation.specs.Breaches.{IsBreach}
use Rattle.carol_obligation.specs.Places.{sites_of}

-- no numbers are a breach at the place
abbrev pub HasNoBreach : Rules → OpRules → Site → Type 0
HasNoBreach p op site = (f : ℕ → ℤ) → ¬ IsBreach p op site f

abbrev pub NoBreachIsGood : Type 0
NoBreachIsGood =
    (p : Rules) (op : OpRules) → AreRules p → IsOpOver p.shape (length p.guards) op →
    AllByRecursion (HasNoBreach p op) (sites_of p op) ↔ IsGood p op

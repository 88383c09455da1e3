-- The formula of a place is false of exactly the numbers that are a breach there.
use Rattle.std.specs.Prelude.{◌≡◌, ◌↔◌, ℕ, false, length, ℤ}
use Rattle.std.specs.List.{AllByRecursion}
use Rattle.carol_formula.specs.Claim.{truth}
use Rattle.carol_program.specs.Rules.{Rules, OpRules}
use Rattle.carol_program.specs.WellFormed.{AreRules, IsOpOver}
use Rattle.carol_obligation.specs.Sites.{Site}
use Rattle.carol_obligation.specs.Breaches.{IsBreach}
use Rattle.carol_obligation.specs.Formed.{obligation_at}
use Rattle.carol_obligation.specs.Places.{sites_of}

-- the formula of the place is false of exactly the numbers that are a breach there
abbrev pub IsExact : Rules → OpRules → Site → Type 0
IsExact p op site =
    (f : ℕ → ℤ) → (truth (obligation_at p op site) f ≡ false) ↔ IsBreach p op site f

-- so it is at each place of an operation
abbrev pub FormulasAreExact : Type 0
FormulasAreExact =
    (p : Rules) (op : OpRules) → AreRules p → IsOpOver p.shape (length p.guards) op →
    AllByRecursion (IsExact p op) (sites_of p op)

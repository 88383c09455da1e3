-- When an answer about rows is right.
use Rattle.std.specs.Prelude.{ℕ, List, ℤ, IsTrue}
use Rattle.std.specs.List.{All}
use Rattle.carol_formula.specs.Claim.{truth}
use Rattle.carol_formula.specs.Value.{Fits}
use Rattle.carol_formula.specs.Numbers.{number_at}
use Rattle.carol_formula.specs.declared.Row.{Row}
use Rattle.carol_cert.specs.Steps.{Closes}
use Rattle.carol_difference.specs.Rows.{claim_of_row, claims_of}
use Rattle.carol_difference.specs.declared.DiffAnswer.{DiffAnswer}
use Rattle.carol_difference.specs.declared.DiffAnswer.TheVariants.{Refuted, Model}

-- the row can be added up at these numbers, and is true of them
abbrev pub IsMet : (ℕ → ℤ) → Row → Type 0
IsMet f row = Fits row.0 f × IsTrue (truth (claim_of_row row) f)

-- no numbers make all the rows true
abbrev pub CannotBeTrue : List Row → Type 0
CannotBeTrue rows = (f : ℕ → ℤ) → ¬ All (λ row. IsTrue (truth (claim_of_row row) f)) rows

-- the steps close the list of the rows, or the valuation makes each of them true
abbrev pub IsDecision : List Row → DiffAnswer → Type 0
IsDecision rows (Refuted steps) = Closes (claims_of rows) steps × CannotBeTrue rows
IsDecision rows (Model valuation) = All (IsMet (number_at valuation)) rows

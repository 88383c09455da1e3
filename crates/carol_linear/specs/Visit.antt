-- What there is at one place.
use Rattle.std.specs.Prelude.{◌≡◌, List, None}
use Rattle.carol_formula.specs.Linear.{Linear}
use Rattle.carol_formula.specs.Numbers.{number_at}
use Rattle.carol_formula.specs.Claim.{Claim}
use Rattle.carol_cert.specs.declared.step.RowStep.{RowStep}
use Rattle.carol_cert.specs.Steps.{Closes}
use Rattle.carol_elimination.specs.Due.{IsDueFor}
use Rattle.carol_elimination.specs.Reasons.{IsWidePair}
use Rattle.carol_linear.specs.Names.{AreNamed}
use Rattle.carol_elimination.specs.Choosing.{AreMet, IsFar}
use Rattle.carol_linear.specs.Answer.{IsDerived}
use Rattle.carol_linear.specs.declared.visit.Visit.{Visit}
use Rattle.carol_linear.specs.declared.visit.Visit.TheVariants.{Closed, Branch, Model, Wide, Far}

abbrev pub IsVisit : List Linear → List RowStep → Visit → Type 0
IsVisit rows names (Closed steps) = (claims : List Claim) → AreNamed claims names rows → Closes claims steps
IsVisit rows names (Branch f) = IsDueFor rows f.variable f.k × (f.low ≡ None)
IsVisit rows names (Model v) = AreMet (number_at v) rows
IsVisit rows names (Wide upper lower x) = IsDerived rows upper × IsDerived rows lower × IsWidePair x upper.row.0 lower.row.0
IsVisit rows names (Far d v) = IsFar rows d.steps d.row.0 (number_at v)

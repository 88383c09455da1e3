-- What the lines at a place of an operation tell.
use Rattle.std.specs.Prelude.{◌≡◌, ◌↔◌, ◌^◌, ℕ, ℤ, Some}
use Rattle.std.specs.List.{AllByRecursion}
use Rattle.carol_formula.specs.Bounds.{AreNear}
use Rattle.carol_program.specs.declared.names.Names.{Names}
use Rattle.carol_program.specs.Rules.{Rules}
use Rattle.carol_program.specs.WellFormed.{AreRules}
use Rattle.carol_obligation.specs.Breaches.{HasTies, IsBreach}
use Rattle.carol_obligation.specs.Spots.{Spot, place_at, spots_of}
use Rattle.carol_accept.specs.Lines.{lines_text}
use Rattle.carol_accept.specs.Trails.{start, trail_of, trail_to}

-- the trail to the statement of the place is that of the way to the place
abbrev pub IsTrailed : Spot → Type 0
IsTrailed s = trail_to s.site.number s.op.body start ≡ Some (trail_of s.site.way)

-- so it is at each place of a program
abbrev pub TrailsAreWays : Type 0
TrailsAreWays = (p : Rules) → AreRules p → AllByRecursion IsTrailed (spots_of p)

-- numbers as a valuation has them, where each peak that is raised at the place has its value after the
-- effect: no line shows that
pub record AreShown (p : Rules) (s : Spot) (f : ℕ → ℤ) : Type 0 where
  pub near : AreNear (2 ^ 127) f
  pub ties : HasTies p.shape s.site.way s.site.ending f

-- of numbers with the same lines both are a breach there, or neither is
abbrev pub IsToldByLines : Rules → Names → Spot → Type 0
IsToldByLines p names s =
    (f g : ℕ → ℤ) → AreShown p s f → AreShown p s g →
    lines_text p names (place_at s) f ≡ lines_text p names (place_at s) g →
    IsBreach p s.op s.site f ↔ IsBreach p s.op s.site g

-- so it is at each place of a program
abbrev pub LinesTell : Type 0
LinesTell = (p : Rules) (names : Names) → AreRules p → AllByRecursion (IsToldByLines p names) (spots_of p)

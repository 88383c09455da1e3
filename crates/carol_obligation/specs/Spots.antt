-- The places of a whole program, in the order of the text.
use Rattle.std.specs.Prelude.{ℕ, ◌+◌, List, [], ◌∷◌, ◌++◌, map}
use Rattle.carol_program.specs.declared.places.Place.{Place}
use Rattle.carol_program.specs.Rules.{Rules, OpRules}
use Rattle.carol_obligation.specs.Sites.{Site}
use Rattle.carol_obligation.specs.Places.{place_of, sites_of}

-- a site of an operation, which has this number
pub record Spot : Type 0 where
  pub number : ℕ
  pub op : OpRules
  pub site : Site

abbrev pub spot_at : ℕ → OpRules → Site → Spot
spot_at number op site = record { number = number; op = op; site = site }

-- what it is called
abbrev pub place_at : Spot → Place
place_at s = place_of s.number s.site.number s.site.ending

-- those of operations, the first of which has this number
abbrev pub spots_from : Rules → ℕ → List OpRules → List Spot
spots_from p number [] = []
spots_from p number (op ∷ ops) = map (spot_at number op) (sites_of p op) ++ spots_from p (number + 1) ops

abbrev pub spots_of : Rules → List Spot
spots_of p = spots_from p 0 p.ops

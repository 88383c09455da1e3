-- The places of a program's operations, with their formulas, in the order of the text.
use Rattle.std.specs.Prelude.{ℕ, ◌+◌, List, [], ◌∷◌, ◌++◌, map}
use Rattle.carol_formula.specs.Claim.{Claim}
use Rattle.carol_program.specs.declared.places.Place.{Place}
use Rattle.carol_program.specs.declared.places.Place.TheVariants as place
use Rattle.carol_program.specs.Rules.{Rules, OpRules}
use Rattle.carol_obligation.specs.Sites.{Ending, Amount, After, Gives, Site, sites}
use Rattle.carol_obligation.specs.Formed.{obligation_at}

-- what the place of an operation with this number is called
abbrev pub place_of : ℕ → ℕ → Ending → Place
place_of op number (Amount atom kind part) = place.Amount op number atom
place_of op number (After parts) = place.Invariant op number
place_of op number (Gives value) = place.Outcome op number

-- the places of a whole operation
abbrev pub sites_of : Rules → OpRules → List Site
sites_of p op = sites p.shape op.body []

-- its place and its formula
abbrev pub obligation_of : Rules → ℕ → OpRules → Site → Place × Claim
obligation_of p number op site = (place_of number site.number site.ending, obligation_at p op site)

-- the obligations of an operation with this number
abbrev pub obligations_at : Rules → ℕ → OpRules → List (Place × Claim)
obligations_at p number op = map (obligation_of p number op) (sites_of p op)

-- those of operations, the first of which has this number
abbrev pub obligations_from : Rules → ℕ → List OpRules → List (Place × Claim)
obligations_from p number [] = []
obligations_from p number (op ∷ ops) = obligations_at p number op ++ obligations_from p (number + 1) ops

abbrev pub obligations_of : Rules → List (Place × Claim)
obligations_of p = obligations_from p 0 p.ops

-- The list of claims that a place of the code stands for.
use Rattle.std.specs.Prelude.{ℕ, ◌≡◌, ◌<◌, ◌^◌, min, List, [], ◌∷◌, ◌++◌, length, map, slice_set}
use Rattle.carol_formula.specs.Bounds.{IsBelow, value_limit}
use Rattle.carol_formula.specs.Claim.{Claim}
use Rattle.carol_formula.specs.Tree.{claim_of}
use Rattle.carol_cert.specs.Cases.{below_zero, above_zero, at_most_number, at_least_number}
use Rattle.carol_cert.specs.declared.place.Item.{Item}
use Rattle.carol_cert.specs.declared.place.Item.TheVariants.{Whole, Negative, Positive, AtMost, AtLeast}
use Rattle.carol_cert.specs.declared.place.Place.{Place, fold-Place}
use Rattle.carol_cert.specs.declared.place.Place.TheOpen.{Place-F}

abbrev pub claim_of_item : Item → Claim
claim_of_item (Whole formula) = claim_of formula.now
claim_of_item (Negative t) = below_zero t.now
claim_of_item (Positive t) = above_zero t.now
claim_of_item (AtMost v k) = at_most_number v.now k
claim_of_item (AtLeast v k) = at_least_number v.now k

-- the number of a bound is below 2 ^ 126
abbrev pub IsItem : Item → Type 0
IsItem (AtMost v k) = IsBelow value_limit k
IsItem (AtLeast v k) = IsBelow value_limit k
IsItem _ = Unit {0}

abbrev pub AreItems : List Item → Type 0
AreItems [] = Unit {0}
AreItems (item ∷ items) = IsItem item × AreItems items

-- a place as plain data
pub data Changes : Type 0 where
  Root : List Claim → Changes
  More : ℕ → List Item → Changes → Changes
  Replaced : ℕ → Item → Changes → Changes

-- one level, where the place before is seen as plain data
abbrev pub changes_at : Place-F Changes → Changes
changes_at (Place-F.Root formulas) = Root (map claim_of formulas.now)
changes_at (Place-F.More at items before) = More at items.now before.now
changes_at (Place-F.Replaced at item before) = Replaced at item before.now

abbrev pub changes_of : Place → Changes
changes_of = fold-Place Changes changes_at

abbrev pub claims_after : Changes → List Claim
claims_after (Root claims) = claims
claims_after (More at items before) = claims_after before ++ map claim_of_item items
claims_after (Replaced at item before) = slice_set (claims_after before) at (claim_of_item item)

-- the claims at a place
abbrev pub claims_at : Place → List Claim
claims_at place = claims_after (changes_of place)

-- a length as far as a `u32` can count within the list
abbrev pub counted : ℕ → ℕ
counted n = min n (2 ^ 32)

-- the numbers of a place are right
abbrev pub AreRight : Changes → Type 0
AreRight (Root claims) = Unit {0}
AreRight (More at items before) = (at ≡ counted (length (claims_after before))) × AreItems items × AreRight before
AreRight (Replaced at item before) = (at < length (claims_after before)) × IsItem item × AreRight before

abbrev pub IsPlace : Place → Type 0
IsPlace place = AreRight (changes_of place)
